use Rattle.std.proofs.Common.{◌≡◌, ℕ, List, Result, ◌-◌, ◌+◌, [], ◌∷◌, ◌++◌, length, Ok, Err, ap, ◌∙◌, arith, length-append}
use Rattle.std.specs.Option.{option_map}
use Rattle.std.proofs.lemmas.Result.{err_from_is_err_and}
use Rattle.std.proofs.lemmas.List.{append-nil}
use Rattle.token_text.specs.Tokens.{Stream, unescaped}
use Rattle.nfg_text.specs.declared.fault.NfgFault.{NfgFault}
use Rattle.nfg_text.specs.Wanted.{◌>>=◌, many_at, behind}
use Rattle.nfg_text.specs.Grammar.{name_or_close_at, sixteen_past, full_at}
use Rattle.nfg_text.proofs.Loops.{many_more, many_end, many_fails, many_past, fails_bind, fails_same, reads_err}
use Rattle.nfg_text.proofs.gambit.more_names.Goals as goal

full_end : (names : List (List ℕ)) (s t : Stream) → full_at s ≡ Ok t → behind names (sixteen_past s) ≡ Ok (names, t)
full_end names s t h =
    let more : Result Stream NfgFault → Result (List (List ℕ) × Stream) NfgFault = λ r. behind names (r >>= λ a. Ok ([], a)) in
    ap more h ∙ ap (λ l. Ok (l, t)) (append-nil names)

pub loop-preserved : goal.loop-preserved
loop-preserved c =
    let k = c.loop.counter in
    let name = unescaped c.in-Some.name.now in
    let kept = c.in_ok-put-in-Some.ensures.kept ∙ ap (λ t. c.loop.names ++ t ∷ []) c.in_ok-text-in-Some.ensures.kept in
    let long = ap length kept in
    record {
      same = many_more name_or_close_at sixteen_past (behind (c.args.first ∷ []) (many_at name_or_close_at sixteen_past 15 c.args.tokens.now)) (15 - k) (15 - (k + 1)) c.loop.names c.put-in-Some.new.list
          name c.loop.tokens c.name_or_close.new.tokens c.loop.invariant.same (omega arith)
          (c.in_ok-name.ensures ∙ ap (λ o. Ok (option_map (λ n. unescaped n.now) o, c.name_or_close.new.tokens)) c.in-Some.is) kept;
      small = omega (arith, length-append c.loop.names (name ∷ []), c.loop.invariant.small);
    }

pub returns-in_err-name-clause-value : goal.returns-in_err-name-clause-value
returns-in_err-name-clause-value c =
    let k = c.loop.counter in
    let p = err_from_is_err_and c.from_residual-in_err-name.result c.from_residual-in_err-name.ensures.1 in
    let fault = c.in_err-name.field-0.0 in
    let all = behind (c.args.first ∷ []) (many_at name_or_close_at sixteen_past 15 c.args.tokens.now) in
    reads_err (λ ns. ns) c.from_residual-in_err-name.result fault c.name_or_close.new.tokens all (p.1 ∙ ap Err p.2)
    (many_fails name_or_close_at sixteen_past all (15 - k) (15 - (k + 1)) c.loop.names c.loop.tokens fault c.loop.invariant.same (omega arith) c.in_err-name.ensures)

pub returns-in-None-clause-value : goal.returns-in-None-clause-value
returns-in-None-clause-value c =
    let k = c.loop.counter in
    let all = behind (c.args.first ∷ []) (many_at name_or_close_at sixteen_past 15 c.args.tokens.now) in
    many_end name_or_close_at sixteen_past all (15 - k) (15 - (k + 1)) c.loop.names c.loop.tokens c.name_or_close.new.tokens c.loop.invariant.same (omega arith)
    (c.in_ok-name.ensures ∙ ap (λ o. Ok (option_map (λ n. unescaped n.now) o, c.name_or_close.new.tokens)) c.in-None.is)

pub returns-in_err-full-clause-value : goal.returns-in_err-full-clause-value
returns-in_err-full-clause-value c =
    let k = c.loop.counter in
    let p = err_from_is_err_and c.from_residual-in_err-full.result c.from_residual-in_err-full.ensures.1 in
    let fault = c.in_err-full.field-0.0 in
    let all = behind (c.args.first ∷ []) (many_at name_or_close_at sixteen_past 15 c.args.tokens.now) in
    reads_err (λ ns. ns) c.from_residual-in_err-full.result fault c.full.new.tokens all (p.1 ∙ ap Err p.2)
    (fails_same fault all (behind c.loop.names (sixteen_past c.loop.tokens)) (many_past name_or_close_at sixteen_past all (15 - k) c.loop.names c.loop.tokens c.loop.invariant.same (omega arith))
    (fails_bind fault (sixteen_past c.loop.tokens) (λ more. Ok (c.loop.names ++ more.0, more.1)) (fails_bind fault (full_at c.loop.tokens) (λ a. Ok ([], a)) c.in_err-full.ensures)))

pub returns-clause-value : goal.returns-clause-value
returns-clause-value c =
    let k = c.loop.counter in
    let all = behind (c.args.first ∷ []) (many_at name_or_close_at sixteen_past 15 c.args.tokens.now) in
    many_past name_or_close_at sixteen_past all (15 - k) c.loop.names c.loop.tokens c.loop.invariant.same (omega arith)
    ∙ full_end c.loop.names c.loop.tokens c.full.new.tokens c.in_ok-full.ensures
