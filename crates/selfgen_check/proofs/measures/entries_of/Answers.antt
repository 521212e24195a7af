use Rattle.std.proofs.Common.{Err, ap, ◌∙◌, arith}
use Rattle.std.proofs.lemmas.Result.{err_from_is_err_and}
use Rattle.selfgen_check.specs.Measures.{scaled_state}
use Rattle.selfgen_check.specs.TextFaults.{each}
use Rattle.selfgen_check.proofs.Measuring.{each_start, each_more, each_fails, each_end, gives_err}
use Rattle.selfgen_check.proofs.measures.entries_of.Goals as goal

pub loop-s-init : goal.loop-s-init
loop-s-init c = each_start (scaled_state c.args.common) c.args.written.now c.new-entries.result c.new-entries.ensures

pub loop-s-preserved : goal.loop-s-preserved
loop-s-preserved c =
    each_more (scaled_state c.args.common) (each (scaled_state c.args.common) c.args.written.now) c.args.written.now c.loop-s.entries c.put.new.list c.loop-s.s c.get.result.now c.get.result.now c.in_ok-state_of.field-0 (omega arith) c.get.ensures c.loop-s.invariant
    c.in_ok-state_of.ensures c.in_ok-put.ensures.kept

pub returns-in_err-state_of : goal.returns-in_err-state_of
returns-in_err-state_of c =
    let p = err_from_is_err_and c.from_residual.result c.from_residual.ensures.1 in
    let fault = c.in_err-state_of.field-0.0 in
    gives_err c.from_residual.result fault (each (scaled_state c.args.common) c.args.written.now) (p.1 ∙ ap Err p.2)
    (each_fails (scaled_state c.args.common) (each (scaled_state c.args.common) c.args.written.now) c.args.written.now c.loop-s.entries c.loop-s.s c.get.result.now c.get.result.now fault (omega arith) c.get.ensures c.loop-s.invariant c.in_err-state_of.ensures)

pub returns : goal.returns
returns c = each_end (scaled_state c.args.common) (each (scaled_state c.args.common) c.args.written.now) c.args.written.now c.loop-s.entries c.loop-s.s (omega arith) c.loop-s.invariant
