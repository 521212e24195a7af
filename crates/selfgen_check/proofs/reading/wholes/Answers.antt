use Rattle.std.proofs.Common.{suc, ◌-◌, length, Ok, Err, ap, ◌∙◌, arith}
use Rattle.std.proofs.lemmas.Result.{err_from_is_err_and}
use Rattle.nfg_text.specs.Wanted.{many_at, bad_past}
use Rattle.selfgen_check.specs.Grammar.{whole_or_close_at, wholes_at}
use Rattle.nfg_text.proofs.Loops.{many_start, many_more, many_end, many_fails, reads_err}
use Rattle.selfgen_check.proofs.Steps.{item_shorter}
use Rattle.selfgen_check.proofs.reading.wholes.Goals as goal

pub loop-numbers-init : goal.loop-numbers-init
loop-numbers-init c =
    let room = suc (length c.args.tokens.now.tokens) in
    (room, omega arith, many_start whole_or_close_at bad_past room c.new-numbers.result c.args.tokens.now c.new-numbers.ensures)

pub loop-numbers-preserved : goal.loop-numbers-preserved
loop-numbers-preserved c =
    let n = c.in-Some.number in
    let t = c.whole_or_close.new.tokens in
    let s = c.loop-numbers.tokens in
    let read = c.in_ok-number.ensures ∙ ap (λ o. Ok (o, t)) c.in-Some.is in
    let less = item_shorter s t n read in
    let room = c.loop-numbers.invariant.0 in
    let enough = c.loop-numbers.invariant.1 in (
      room - 1,
      omega arith,
      many_more whole_or_close_at bad_past (many_at whole_or_close_at bad_past (suc (length c.args.tokens.now.tokens)) c.args.tokens.now) room (room - 1) c.loop-numbers.numbers c.put.new.list n s t
          c.loop-numbers.invariant.2 (omega arith) read c.in_ok-put.ensures.kept,
    )

pub loop-numbers-smaller : goal.loop-numbers-smaller
loop-numbers-smaller c =
    let t = c.whole_or_close.new.tokens in
    item_shorter c.loop-numbers.tokens t c.in-Some.number (c.in_ok-number.ensures ∙ ap (λ o. Ok (o, t)) c.in-Some.is)

pub returns-in_err-number : goal.returns-in_err-number
unfolding wholes_at
returns-in_err-number c =
    let p = err_from_is_err_and c.from_residual.result c.from_residual.ensures.1 in
    let fault = c.in_err-number.field-0.0 in
    let room = c.loop-numbers.invariant.0 in
    let enough = c.loop-numbers.invariant.1 in
    reads_err (λ ns. ns) c.from_residual.result fault c.whole_or_close.new.tokens (wholes_at c.args.tokens.now) (p.1 ∙ ap Err p.2)
    (many_fails whole_or_close_at bad_past (wholes_at c.args.tokens.now) room (room - 1) c.loop-numbers.numbers c.loop-numbers.tokens fault c.loop-numbers.invariant.2 (omega arith) c.in_err-number.ensures)

pub returns : goal.returns
unfolding wholes_at
returns c =
    let room = c.loop-numbers.invariant.0 in
    let enough = c.loop-numbers.invariant.1 in
    let t = c.whole_or_close.new.tokens in
    many_end whole_or_close_at bad_past (wholes_at c.args.tokens.now) room (room - 1) c.loop-numbers.numbers c.loop-numbers.tokens t c.loop-numbers.invariant.2 (omega arith)
    (c.in_ok-number.ensures ∙ ap (λ o. Ok (o, t)) c.in_default.is)
