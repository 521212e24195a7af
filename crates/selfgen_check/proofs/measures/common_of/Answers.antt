use Rattle.std.proofs.Common.{Err, ap, ◌∙◌, arith}
use Rattle.std.proofs.lemmas.Result.{err_from_is_err_and}
use Rattle.selfgen_check.specs.Measures.{with_state}
use Rattle.selfgen_check.specs.TextFaults.{folded}
use Rattle.selfgen_check.proofs.Measuring.{folded_more, folded_fails, folded_end, gives_err}
use Rattle.selfgen_check.proofs.measures.common_of.Goals as goal

pub loop-s-preserved : goal.loop-s-preserved
loop-s-preserved c = record {
  same = folded_more with_state (folded with_state c.args.denominator c.args.states.now) c.loop-s.common c.in_ok-common.common c.args.states.now c.loop-s.s c.get.result.now c.get.result.now (omega arith) c.get.ensures c.loop-s.invariant.same c.in_ok-common.ensures.common;
  positive = c.in_ok-common.ensures.positive;
  small = c.in_ok-common.ensures.small;
}

pub returns-in_err-common-clause-common : goal.returns-in_err-common-clause-common
returns-in_err-common-clause-common c =
    let p = err_from_is_err_and c.from_residual.result c.from_residual.ensures.1 in
    let fault = c.in_err-common.field-0.0 in
    gives_err c.from_residual.result fault (folded with_state c.args.denominator c.args.states.now) (p.1 ∙ ap Err p.2)
    (folded_fails with_state (folded with_state c.args.denominator c.args.states.now) c.loop-s.common c.args.states.now c.loop-s.s c.get.result.now c.get.result.now fault (omega arith) c.get.ensures c.loop-s.invariant.same c.in_err-common.ensures.common)

pub returns-clause-common : goal.returns-clause-common
returns-clause-common c = folded_end with_state (folded with_state c.args.denominator c.args.states.now) c.loop-s.common c.args.states.now c.loop-s.s (omega arith) c.loop-s.invariant.same
