use Rattle.std.proofs.Common.{Err, ap, ◌∙◌, arith}
use Rattle.std.proofs.lemmas.Result.{err_from_is_err_and}
use Rattle.selfgen_check.specs.Measures.{scaled_entry, scaled_state}
use Rattle.selfgen_check.proofs.Measuring.{each_start, each_more, each_fails, each_end, gives_err}
use Rattle.selfgen_check.proofs.measures.state_of.Goals as goal

pub loop-k-init : goal.loop-k-init
loop-k-init c = each_start (scaled_entry c.args.common) c.args.written.now c.new-entries.result c.new-entries.ensures

pub loop-k-preserved : goal.loop-k-preserved
loop-k-preserved c =
    each_more (scaled_entry c.args.common) (scaled_state c.args.common c.args.written.now) c.args.written.now c.loop-k.entries c.put.new.list c.loop-k.k c.get.result.now c.get.result.now c.in_ok-entry_of.field-0 (omega arith) c.get.ensures c.loop-k.invariant
    c.in_ok-entry_of.ensures c.in_ok-put.ensures.kept

pub returns-in_err-entry_of : goal.returns-in_err-entry_of
returns-in_err-entry_of c =
    let p = err_from_is_err_and c.from_residual.result c.from_residual.ensures.1 in
    let fault = c.in_err-entry_of.field-0.0 in
    gives_err c.from_residual.result fault (scaled_state c.args.common c.args.written.now) (p.1 ∙ ap Err p.2)
    (each_fails (scaled_entry c.args.common) (scaled_state c.args.common c.args.written.now) c.args.written.now c.loop-k.entries c.loop-k.k c.get.result.now c.get.result.now fault (omega arith) c.get.ensures c.loop-k.invariant c.in_err-entry_of.ensures)

pub returns : goal.returns
returns c = each_end (scaled_entry c.args.common) (scaled_state c.args.common c.args.written.now) c.args.written.now c.loop-k.entries c.loop-k.k (omega arith) c.loop-k.invariant
