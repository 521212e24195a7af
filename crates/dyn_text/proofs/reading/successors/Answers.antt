use Rattle.std.proofs.Common.{suc, ◌-◌, length, Ok, Err, ap, ◌∙◌, arith}
use Rattle.std.proofs.lemmas.Result.{err_from_is_err_and}
use Rattle.nfg_text.specs.Wanted.{many_at, bad_past}
use Rattle.dyn_text.specs.Grammar.{successor_or_close_at, successors_at}
use Rattle.nfg_text.proofs.Loops.{many_start, many_more, many_end, many_fails, reads_err}
use Rattle.dyn_text.proofs.Steps.{item_shorter}
use Rattle.dyn_text.proofs.reading.successors.Goals as goal

pub loop-successors-init : goal.loop-successors-init
loop-successors-init c =
    let room = suc (length c.args.tokens.now.tokens) in
    (room, omega arith, many_start successor_or_close_at bad_past room c.new-successors.result c.args.tokens.now c.new-successors.ensures)

pub loop-successors-preserved : goal.loop-successors-preserved
loop-successors-preserved c =
    let n = c.in-Some.number in
    let t = c.successor_or_close.new.tokens in
    let s = c.loop-successors.tokens in
    let read = c.in_ok-number.ensures ∙ ap (λ o. Ok (o, t)) c.in-Some.is in
    let less = item_shorter s t n read in
    let room = c.loop-successors.invariant.0 in
    let enough = c.loop-successors.invariant.1 in (
      room - 1,
      omega arith,
      many_more successor_or_close_at bad_past (many_at successor_or_close_at bad_past (suc (length c.args.tokens.now.tokens)) c.args.tokens.now) room (room - 1) c.loop-successors.successors c.put.new.list n s t
          c.loop-successors.invariant.2 (omega arith) read c.in_ok-put.ensures.kept,
    )

pub loop-successors-smaller : goal.loop-successors-smaller
loop-successors-smaller c =
    let t = c.successor_or_close.new.tokens in
    item_shorter c.loop-successors.tokens t c.in-Some.number (c.in_ok-number.ensures ∙ ap (λ o. Ok (o, t)) c.in-Some.is)

pub returns-in_err-number : goal.returns-in_err-number
unfolding successors_at
returns-in_err-number c =
    let p = err_from_is_err_and c.from_residual.result c.from_residual.ensures.1 in
    let fault = c.in_err-number.field-0.0 in
    let room = c.loop-successors.invariant.0 in
    let enough = c.loop-successors.invariant.1 in
    reads_err (λ ns. ns) c.from_residual.result fault c.successor_or_close.new.tokens (successors_at c.args.tokens.now) (p.1 ∙ ap Err p.2)
    (many_fails successor_or_close_at bad_past (successors_at c.args.tokens.now) room (room - 1) c.loop-successors.successors c.loop-successors.tokens fault c.loop-successors.invariant.2 (omega arith) c.in_err-number.ensures)

pub returns : goal.returns
unfolding successors_at
returns c =
    let room = c.loop-successors.invariant.0 in
    let enough = c.loop-successors.invariant.1 in
    let t = c.successor_or_close.new.tokens in
    many_end successor_or_close_at bad_past (successors_at c.args.tokens.now) room (room - 1) c.loop-successors.successors c.loop-successors.tokens t c.loop-successors.invariant.2 (omega arith)
    (c.in_ok-number.ensures ∙ ap (λ o. Ok (o, t)) c.in_default.is)
