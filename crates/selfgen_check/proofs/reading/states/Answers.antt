use Rattle.std.proofs.Common.{◌-◌, ◌+◌, Err, ap, ◌∙◌, arith}
use Rattle.std.proofs.lemmas.Result.{err_from_is_err_and}
use Rattle.nfg_text.specs.Wanted.{times_at}
use Rattle.nfg_text.proofs.Loops.{times_start, times_more, times_end, times_fails, reads_err}
use Rattle.selfgen_check.specs.Grammar.{state_at}
use Rattle.selfgen_check.proofs.reading.states.Goals as goal

pub loop-init : goal.loop-init
loop-init c = times_start (state_at c.args.players) c.args.count (c.args.count - 0) c.new-states.result c.args.tokens.now (omega arith) c.new-states.ensures

pub loop-preserved : goal.loop-preserved
loop-preserved c =
    let n = c.args.count in
    let k = c.loop.counter in
    times_more (state_at c.args.players) (times_at (state_at c.args.players) n c.args.tokens.now) (n - k) (n - (k + 1)) c.loop.states c.put.new.list c.in_ok-state.field-0 c.loop.tokens c.state.new.tokens
    c.loop.invariant (omega arith) c.in_ok-state.ensures c.in_ok-put.ensures.kept

pub returns-in_err-state : goal.returns-in_err-state
returns-in_err-state c =
    let n = c.args.count in
    let k = c.loop.counter in
    let p = err_from_is_err_and c.from_residual.result c.from_residual.ensures.1 in
    let fault = c.in_err-state.field-0.0 in
    reads_err (λ xs. xs) c.from_residual.result fault c.state.new.tokens (times_at (state_at c.args.players) n c.args.tokens.now) (p.1 ∙ ap Err p.2)
    (times_fails (state_at c.args.players) (times_at (state_at c.args.players) n c.args.tokens.now) (n - k) (n - (k + 1)) c.loop.states c.loop.tokens fault c.loop.invariant (omega arith) c.in_err-state.ensures)

pub returns : goal.returns
returns c =
    times_end (state_at c.args.players) (times_at (state_at c.args.players) c.args.count c.args.tokens.now) (c.args.count - c.loop.counter) c.loop.states c.loop.tokens c.loop.invariant (omega arith)
