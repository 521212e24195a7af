use Rattle.std.proofs.Common.{Err, ap, ◌∙◌, arith}
use Rattle.std.proofs.lemmas.Result.{err_from_is_err_and}
use Rattle.selfgen_check.specs.Measures.{with_entry, with_state}
use Rattle.selfgen_check.proofs.Measuring.{folded_more, folded_fails, folded_end, gives_err}
use Rattle.selfgen_check.proofs.measures.with_state.Goals as goal

pub loop-k-preserved : goal.loop-k-preserved
loop-k-preserved c = record {
  same = folded_more with_entry (with_state c.args.common c.args.entries.now) c.loop-k.multiple c.in_ok-multiple.multiple c.args.entries.now c.loop-k.k c.get.result.now c.get.result.now (omega arith) c.get.ensures c.loop-k.invariant.same c.in_ok-multiple.ensures.common;
  positive = c.in_ok-multiple.ensures.positive;
  small = c.in_ok-multiple.ensures.small;
}

pub returns-in_err-multiple-clause-common : goal.returns-in_err-multiple-clause-common
returns-in_err-multiple-clause-common c =
    let p = err_from_is_err_and c.from_residual.result c.from_residual.ensures.1 in
    let fault = c.in_err-multiple.field-0.0 in
    gives_err c.from_residual.result fault (with_state c.args.common c.args.entries.now) (p.1 ∙ ap Err p.2)
    (folded_fails with_entry (with_state c.args.common c.args.entries.now) c.loop-k.multiple c.args.entries.now c.loop-k.k c.get.result.now c.get.result.now fault (omega arith) c.get.ensures c.loop-k.invariant.same c.in_err-multiple.ensures.common)

pub returns-clause-common : goal.returns-clause-common
returns-clause-common c = folded_end with_entry (with_state c.args.common c.args.entries.now) c.loop-k.multiple c.args.entries.now c.loop-k.k (omega arith) c.loop-k.invariant.same
