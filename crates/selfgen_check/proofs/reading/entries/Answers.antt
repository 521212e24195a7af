use Rattle.std.proofs.Common.{◌-◌, ◌+◌, [], ◌++◌, Ok, Err, ap, ◌∙◌, arith}
use Rattle.std.proofs.lemmas.Result.{err_from_is_err_and}
use Rattle.nfg_text.specs.Wanted.{many_at, behind}
use Rattle.nfg_text.proofs.Loops.{many_start, many_more, many_end, many_fails, many_past, fails_bind, fails_same, reads_err}
use Rattle.selfgen_check.specs.Grammar.{entry_or_close_at, entries_past, entries_end_at}
use Rattle.selfgen_check.proofs.Steps.{entries_end}
use Rattle.selfgen_check.proofs.reading.entries.Goals as goal

pub loop-init : goal.loop-init
loop-init c = many_start (entry_or_close_at c.args.players) entries_past 65535 c.new-entries.result c.args.tokens.now c.new-entries.ensures

pub loop-preserved : goal.loop-preserved
loop-preserved c =
    let k = c.loop.counter in
    let t = c.entry_or_close.new.tokens in
    many_more (entry_or_close_at c.args.players) entries_past (many_at (entry_or_close_at c.args.players) entries_past 65535 c.args.tokens.now) (65535 - k) (65535 - (k + 1)) c.loop.entries c.put.new.list
    c.in-Some.entry c.loop.tokens t c.loop.invariant (omega arith)
    (c.in_ok-entry.ensures ∙ ap (λ o. Ok (o, t)) c.in-Some.is) c.in_ok-put-in-Some.ensures.kept

pub returns-in_err-entry : goal.returns-in_err-entry
returns-in_err-entry c =
    let k = c.loop.counter in
    let p = err_from_is_err_and c.from_residual.result c.from_residual.ensures.1 in
    let fault = c.in_err-entry.field-0.0 in
    let all = many_at (entry_or_close_at c.args.players) entries_past 65535 c.args.tokens.now in
    reads_err (λ xs. xs) c.from_residual.result fault c.entry_or_close.new.tokens all (p.1 ∙ ap Err p.2)
    (many_fails (entry_or_close_at c.args.players) entries_past all (65535 - k) (65535 - (k + 1)) c.loop.entries c.loop.tokens fault c.loop.invariant (omega arith) c.in_err-entry.ensures)

pub returns-in-None : goal.returns-in-None
returns-in-None c =
    let k = c.loop.counter in
    let all = many_at (entry_or_close_at c.args.players) entries_past 65535 c.args.tokens.now in
    many_end (entry_or_close_at c.args.players) entries_past all (65535 - k) (65535 - (k + 1)) c.loop.entries c.loop.tokens c.entry_or_close.new.tokens c.loop.invariant (omega arith)
    (c.in_ok-entry.ensures ∙ ap (λ o. Ok (o, c.entry_or_close.new.tokens)) c.in-None.is)

pub returns-in_err-entries_end : goal.returns-in_err-entries_end
returns-in_err-entries_end c =
    let k = c.loop.counter in
    let p = err_from_is_err_and c.from_residual-in_err-entries_end.result c.from_residual-in_err-entries_end.ensures.1 in
    let fault = c.in_err-entries_end.field-0.0 in
    let all = many_at (entry_or_close_at c.args.players) entries_past 65535 c.args.tokens.now in
    reads_err (λ xs. xs) c.from_residual-in_err-entries_end.result fault c.entries_end.new.tokens all (p.1 ∙ ap Err p.2)
    (fails_same fault all (behind c.loop.entries (entries_past c.loop.tokens)) (many_past (entry_or_close_at c.args.players) entries_past all (65535 - k) c.loop.entries c.loop.tokens c.loop.invariant (omega arith))
    (fails_bind fault (entries_past c.loop.tokens) (λ more. Ok (c.loop.entries ++ more.0, more.1)) (fails_bind fault (entries_end_at c.loop.tokens) (λ a. Ok ([], a)) c.in_err-entries_end.ensures)))

pub returns : goal.returns
returns c =
    let k = c.loop.counter in
    let all = many_at (entry_or_close_at c.args.players) entries_past 65535 c.args.tokens.now in
    many_past (entry_or_close_at c.args.players) entries_past all (65535 - k) c.loop.entries c.loop.tokens c.loop.invariant (omega arith)
    ∙ entries_end c.loop.entries c.loop.tokens c.entries_end.new.tokens c.in_ok-entries_end.ensures
