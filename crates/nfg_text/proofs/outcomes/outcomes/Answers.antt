use Rattle.std.proofs.Common.{suc, ◌-◌, length, Ok, Err, ap, ◌∙◌, arith}
use Rattle.std.proofs.lemmas.Result.{err_from_is_err_and}
use Rattle.nfg_text.specs.Wanted.{many_at, bad_past}
use Rattle.nfg_text.specs.Grammar.{outcome_or_close_at, outcomes_at}
use Rattle.nfg_text.proofs.Loops.{many_start, many_more, many_end, many_fails, reads_err}
use Rattle.nfg_text.proofs.Shorter.{item_shorter}
use Rattle.nfg_text.proofs.outcomes.outcomes.Goals as goal

pub loop-outcomes-init : goal.loop-outcomes-init
loop-outcomes-init c =
    let room = suc (length c.args.tokens.now.tokens) in
    (room, omega arith, many_start outcome_or_close_at bad_past room c.new-outcomes.result c.args.tokens.now c.new-outcomes.ensures)

pub loop-outcomes-preserved : goal.loop-outcomes-preserved
loop-outcomes-preserved c =
    let o = c.in-Some.outcome in
    let t = c.outcome_or_close.new.tokens in
    let s = c.loop-outcomes.tokens in
    let read = c.in_ok-outcome.ensures ∙ ap (λ o. Ok (o, t)) c.in-Some.is in
    let less = item_shorter s t o read in
    let room = c.loop-outcomes.invariant.0 in
    let enough = c.loop-outcomes.invariant.1 in (
      room - 1,
      omega arith,
      many_more outcome_or_close_at bad_past (many_at outcome_or_close_at bad_past (suc (length c.args.tokens.now.tokens)) c.args.tokens.now) room (room - 1) c.loop-outcomes.outcomes c.put.new.list o s t
          c.loop-outcomes.invariant.2 (omega arith) read c.in_ok-put.ensures.kept,
    )

pub loop-outcomes-smaller : goal.loop-outcomes-smaller
loop-outcomes-smaller c =
    let t = c.outcome_or_close.new.tokens in
    item_shorter c.loop-outcomes.tokens t c.in-Some.outcome (c.in_ok-outcome.ensures ∙ ap (λ o. Ok (o, t)) c.in-Some.is)

pub returns-in_err-outcome : goal.returns-in_err-outcome
unfolding outcomes_at
returns-in_err-outcome c =
    let p = err_from_is_err_and c.from_residual.result c.from_residual.ensures.1 in
    let fault = c.in_err-outcome.field-0.0 in
    let room = c.loop-outcomes.invariant.0 in
    let enough = c.loop-outcomes.invariant.1 in
    reads_err (λ os. os) c.from_residual.result fault c.outcome_or_close.new.tokens (outcomes_at c.args.tokens.now) (p.1 ∙ ap Err p.2)
    (many_fails outcome_or_close_at bad_past (outcomes_at c.args.tokens.now) room (room - 1) c.loop-outcomes.outcomes c.loop-outcomes.tokens fault c.loop-outcomes.invariant.2 (omega arith) c.in_err-outcome.ensures)

pub returns : goal.returns
unfolding outcomes_at
returns c =
    let room = c.loop-outcomes.invariant.0 in
    let enough = c.loop-outcomes.invariant.1 in
    let t = c.outcome_or_close.new.tokens in
    many_end outcome_or_close_at bad_past (outcomes_at c.args.tokens.now) room (room - 1) c.loop-outcomes.outcomes c.loop-outcomes.tokens t c.loop-outcomes.invariant.2 (omega arith)
    (c.in_ok-outcome.ensures ∙ ap (λ o. Ok (o, t)) c.in_default.is)
