use Rattle.std.proofs.Common.{◌-◌, ◌+◌, [], ◌∷◌, ◌++◌, Ok, Err, ap, ◌∙◌, arith}
use Rattle.std.proofs.lemmas.Result.{err_from_is_err_and}
use Rattle.nfg_text.specs.Wanted.{many_at, behind}
use Rattle.nfg_text.proofs.Loops.{many_more, many_end, many_fails, many_past, fails_bind, fails_same, reads_err}
use Rattle.dyn_text.specs.Grammar.{state_or_close_at, states_past, full_at}
use Rattle.dyn_text.proofs.Steps.{full_end}
use Rattle.dyn_text.proofs.reading.more_states.Goals as goal

pub loop-preserved : goal.loop-preserved
loop-preserved c =
    let k = c.loop.counter in
    many_more state_or_close_at states_past (behind (c.args.first ∷ []) (many_at state_or_close_at states_past 63 c.args.tokens.now)) (63 - k) (63 - (k + 1)) c.loop.states c.put-in-Some.new.list
    c.in-Some.state c.loop.tokens c.state_or_close.new.tokens c.loop.invariant (omega arith)
    (c.in_ok-state.ensures ∙ ap (λ o. Ok (o, c.state_or_close.new.tokens)) c.in-Some.is) c.in_ok-put-in-Some.ensures.kept

pub returns-in_err-state : goal.returns-in_err-state
returns-in_err-state c =
    let k = c.loop.counter in
    let p = err_from_is_err_and c.from_residual-in_err-state.result c.from_residual-in_err-state.ensures.1 in
    let fault = c.in_err-state.field-0.0 in
    let all = behind (c.args.first ∷ []) (many_at state_or_close_at states_past 63 c.args.tokens.now) in
    reads_err (λ xs. xs) c.from_residual-in_err-state.result fault c.state_or_close.new.tokens all (p.1 ∙ ap Err p.2)
    (many_fails state_or_close_at states_past all (63 - k) (63 - (k + 1)) c.loop.states c.loop.tokens fault c.loop.invariant (omega arith) c.in_err-state.ensures)

pub returns-in-None : goal.returns-in-None
returns-in-None c =
    let k = c.loop.counter in
    let all = behind (c.args.first ∷ []) (many_at state_or_close_at states_past 63 c.args.tokens.now) in
    many_end state_or_close_at states_past all (63 - k) (63 - (k + 1)) c.loop.states c.loop.tokens c.state_or_close.new.tokens c.loop.invariant (omega arith)
    (c.in_ok-state.ensures ∙ ap (λ o. Ok (o, c.state_or_close.new.tokens)) c.in-None.is)

pub returns-in_err-full : goal.returns-in_err-full
returns-in_err-full c =
    let k = c.loop.counter in
    let p = err_from_is_err_and c.from_residual-in_err-full.result c.from_residual-in_err-full.ensures.1 in
    let fault = c.in_err-full.field-0.0 in
    let all = behind (c.args.first ∷ []) (many_at state_or_close_at states_past 63 c.args.tokens.now) in
    reads_err (λ xs. xs) c.from_residual-in_err-full.result fault c.full.new.tokens all (p.1 ∙ ap Err p.2)
    (fails_same fault all (behind c.loop.states (states_past c.loop.tokens)) (many_past state_or_close_at states_past all (63 - k) c.loop.states c.loop.tokens c.loop.invariant (omega arith))
    (fails_bind fault (states_past c.loop.tokens) (λ more. Ok (c.loop.states ++ more.0, more.1)) (fails_bind fault (full_at c.loop.tokens) (λ a. Ok ([], a)) c.in_err-full.ensures)))

pub returns : goal.returns
returns c =
    let k = c.loop.counter in
    let all = behind (c.args.first ∷ []) (many_at state_or_close_at states_past 63 c.args.tokens.now) in
    many_past state_or_close_at states_past all (63 - k) c.loop.states c.loop.tokens c.loop.invariant (omega arith)
    ∙ full_end c.loop.states c.loop.tokens c.full.new.tokens c.in_ok-full.ensures
