use Rattle.std.proofs.Common.{suc, sym, subst, ◌-◌, length, Ok, Err, ap, ◌∙◌, arith}
use Rattle.std.specs.Prelude.{All, ◌∷◌, [], IfSome}
use Rattle.std.proofs.lemmas.List.Elements.{All-append, All-cons, All-nil}
use Rattle.std.proofs.lemmas.Result.{err_from_is_err_and}
use Rattle.nfg_text.specs.Wanted.{many_at, bad_past}
use Rattle.schedule_core.specs.Schedules.{FitsMove, move_or_close_at, moves_at}
use Rattle.nfg_text.proofs.Loops.{many_more, many_end, many_fails, reads_err}
use Rattle.schedule_core.proofs.Schedules.{item_shorter}
use Rattle.schedule_core.proofs.reading.moves.Goals as goal

pub loop-moves-preserved : goal.loop-moves-preserved
loop-moves-preserved c =
    let n = c.in-Some.next in
    let t = c.move_or_close.new.tokens in
    let s = c.loop-moves.tokens in
    let read = c.in_ok-next.ensures.value ∙ ap (λ o. Ok (o, t)) c.in-Some.is in
    let less = item_shorter c.args.workers c.args.rows s t n read in
    let room = c.loop-moves.invariant.0 in
    let enough = c.loop-moves.invariant.1 in
    let fit = FitsMove c.args.workers c.args.rows in
    let item = move_or_close_at c.args.workers c.args.rows in (
      room - 1,
      omega arith,
      many_more item bad_past (many_at item bad_past (suc (length c.args.tokens.now.tokens)) c.args.tokens.now) room (room - 1) c.loop-moves.moves c.put.new.moves n s t
          c.loop-moves.invariant.2 (omega arith) read c.in_ok-put.ensures.kept,
      subst (All fit) (sym c.in_ok-put.ensures.kept) (All-append fit c.loop-moves.moves (n ∷ []) c.loop-moves.invariant.3
          (All-cons fit n [] (subst (λ o. IfSome o fit) c.in-Some.is c.in_ok-next.ensures.fits) (All-nil fit))),
    )

pub loop-moves-smaller : goal.loop-moves-smaller
loop-moves-smaller c =
    let t = c.move_or_close.new.tokens in
    item_shorter c.args.workers c.args.rows c.loop-moves.tokens t c.in-Some.next (c.in_ok-next.ensures.value ∙ ap (λ o. Ok (o, t)) c.in-Some.is)

pub returns-in_err-next-clause-value : goal.returns-in_err-next-clause-value
unfolding moves_at
returns-in_err-next-clause-value c =
    let p = err_from_is_err_and c.from_residual.result c.from_residual.ensures.1 in
    let fault = c.in_err-next.field-0.0 in
    let room = c.loop-moves.invariant.0 in
    let enough = c.loop-moves.invariant.1 in
    let all = moves_at c.args.workers c.args.rows c.args.tokens.now in
    reads_err (λ ms. ms) c.from_residual.result fault c.move_or_close.new.tokens all (p.1 ∙ ap Err p.2)
    (many_fails (move_or_close_at c.args.workers c.args.rows) bad_past all room (room - 1) c.loop-moves.moves c.loop-moves.tokens fault c.loop-moves.invariant.2 (omega arith) c.in_err-next.ensures.value)

pub returns-clause-value : goal.returns-clause-value
unfolding moves_at
returns-clause-value c =
    let room = c.loop-moves.invariant.0 in
    let enough = c.loop-moves.invariant.1 in
    let t = c.move_or_close.new.tokens in
    many_end (move_or_close_at c.args.workers c.args.rows) bad_past (moves_at c.args.workers c.args.rows c.args.tokens.now) room (room - 1) c.loop-moves.moves c.loop-moves.tokens t c.loop-moves.invariant.2 (omega arith)
    (c.in_ok-next.ensures.value ∙ ap (λ o. Ok (o, t)) c.in_default.is)
