use Rattle.std.proofs.Common.{Err, ap, ◌∙◌, arith}
use Rattle.std.proofs.lemmas.Result.{err_from_is_err_and}
use Rattle.selfgen_check.specs.Measures.{with_entry, with_part}
use Rattle.selfgen_check.proofs.Measuring.{folded_more, folded_fails, folded_end, gives_err}
use Rattle.selfgen_check.proofs.measures.with_entry.Goals as goal

pub loop-i-preserved : goal.loop-i-preserved
loop-i-preserved c = record {
  same = folded_more with_part (with_entry c.args.common c.args.entry.now) c.loop-i.multiple c.in_ok-multiple.multiple c.args.entry.now.point c.loop-i.i c.get.result.now c.get.result.now (omega arith) c.get.ensures c.loop-i.invariant.same c.in_ok-multiple.ensures.common;
  positive = c.in_ok-multiple.ensures.positive;
  small = c.in_ok-multiple.ensures.small;
}

pub returns-in_err-multiple-clause-common : goal.returns-in_err-multiple-clause-common
returns-in_err-multiple-clause-common c =
    let p = err_from_is_err_and c.from_residual.result c.from_residual.ensures.1 in
    let fault = c.in_err-multiple.field-0.0 in
    gives_err c.from_residual.result fault (with_entry c.args.common c.args.entry.now) (p.1 ∙ ap Err p.2)
    (folded_fails with_part (with_entry c.args.common c.args.entry.now) c.loop-i.multiple c.args.entry.now.point c.loop-i.i c.get.result.now c.get.result.now fault (omega arith) c.get.ensures c.loop-i.invariant.same c.in_err-multiple.ensures.common)

pub returns-clause-common : goal.returns-clause-common
returns-clause-common c = folded_end with_part (with_entry c.args.common c.args.entry.now) c.loop-i.multiple c.args.entry.now.point c.loop-i.i (omega arith) c.loop-i.invariant.same
