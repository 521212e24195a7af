use Rattle.std.proofs.Common.{◌-◌, ◌+◌, Err, ap, ◌∙◌, arith}
use Rattle.std.proofs.lemmas.Result.{err_from_is_err_and}
use Rattle.nfg_text.specs.Wanted.{number_at, times_at}
use Rattle.nfg_text.proofs.Loops.{times_start, times_more, times_end, times_fails, reads_err}
use Rattle.nfg_text.proofs.gambit.numbers.Goals as goal

pub loop-init : goal.loop-init
loop-init c = times_start number_at c.args.count (c.args.count - 0) c.new-numbers.result c.args.tokens.now (omega arith) c.new-numbers.ensures

pub loop-preserved : goal.loop-preserved
loop-preserved c =
    let n = c.args.count in
    let k = c.loop.counter in
    times_more number_at (times_at number_at n c.args.tokens.now) (n - k) (n - (k + 1)) c.loop.numbers c.put.new.list c.in_ok-number.field-0 c.loop.tokens c.number.new.tokens
    c.loop.invariant (omega arith) c.in_ok-number.ensures c.in_ok-put.ensures.kept

pub returns-in_err-number : goal.returns-in_err-number
returns-in_err-number c =
    let n = c.args.count in
    let k = c.loop.counter in
    let p = err_from_is_err_and c.from_residual.result c.from_residual.ensures.1 in
    let fault = c.in_err-number.field-0.0 in
    reads_err (λ ps. ps) c.from_residual.result fault c.number.new.tokens (times_at number_at n c.args.tokens.now) (p.1 ∙ ap Err p.2)
    (times_fails number_at (times_at number_at n c.args.tokens.now) (n - k) (n - (k + 1)) c.loop.numbers c.loop.tokens fault c.loop.invariant (omega arith) c.in_err-number.ensures)

pub returns : goal.returns
returns c =
    times_end number_at (times_at number_at c.args.count c.args.tokens.now) (c.args.count - c.loop.counter) c.loop.numbers c.loop.tokens c.loop.invariant (omega arith)
