use Rattle.std.proofs.Common.{◌-◌, ◌+◌, Err, ap, ◌∙◌, arith}
use Rattle.std.proofs.lemmas.Result.{err_from_is_err_and}
use Rattle.nfg_text.specs.Wanted.{times_at}
use Rattle.nfg_text.proofs.Loops.{times_start, times_more, times_end, times_fails, reads_err}
use Rattle.selfgen_check.specs.Grammar.{whole_at}
use Rattle.selfgen_check.proofs.reading.strategies.Goals as goal

pub loop-init : goal.loop-init
loop-init c = times_start whole_at c.args.count (c.args.count - 0) c.new-strategies.result c.args.tokens.now (omega arith) c.new-strategies.ensures

pub loop-preserved : goal.loop-preserved
loop-preserved c =
    let n = c.args.count in
    let k = c.loop.counter in
    times_more whole_at (times_at whole_at n c.args.tokens.now) (n - k) (n - (k + 1)) c.loop.strategies c.put.new.list c.in_ok-next_whole.field-0 c.loop.tokens c.next_whole.new.tokens
    c.loop.invariant (omega arith) c.in_ok-next_whole.ensures c.in_ok-put.ensures.kept

pub returns-in_err-next_whole : goal.returns-in_err-next_whole
returns-in_err-next_whole c =
    let n = c.args.count in
    let k = c.loop.counter in
    let p = err_from_is_err_and c.from_residual.result c.from_residual.ensures.1 in
    let fault = c.in_err-next_whole.field-0.0 in
    reads_err (λ ns. ns) c.from_residual.result fault c.next_whole.new.tokens (times_at whole_at n c.args.tokens.now) (p.1 ∙ ap Err p.2)
    (times_fails whole_at (times_at whole_at n c.args.tokens.now) (n - k) (n - (k + 1)) c.loop.strategies c.loop.tokens fault c.loop.invariant (omega arith) c.in_err-next_whole.ensures)

pub returns : goal.returns
returns c =
    times_end whole_at (times_at whole_at c.args.count c.args.tokens.now) (c.args.count - c.loop.counter) c.loop.strategies c.loop.tokens c.loop.invariant (omega arith)
