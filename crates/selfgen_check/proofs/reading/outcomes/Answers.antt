use Rattle.std.specs.Prelude.{unsigned_abs, ℤ, pos, ◌≤ℤ◌, IfSome}
use Rattle.std.proofs.Common.{rules, ◌≡◌, ℕ, ◌-◌, ◌+◌, ◌^◌, subst, FitsSigned, [], ◌∷◌, ◌++◌, length, Option, Result, Ok, Err, ap, ◌∙◌, arith, length-append}
use Rattle.std.specs.Option.{option_map}
use Rattle.std.proofs.lemmas.Result.{err_from_is_err_and}
use mir.Syntax.{w128}
use Rattle.std.proofs.lemmas.Int.{ints, to_z-of_z, fits_signed_from_abs}
use Rattle.std.proofs.lemmas.Grind.{common_steps}
use Rattle.token_text.specs.Tokens.{Stream}
use Rattle.nfg_text.specs.declared.fault.NfgFault.{NfgFault}
use Rattle.nfg_text.specs.Wanted.{many_at, behind}
use Rattle.nfg_text.proofs.Loops.{many_more, many_end, many_fails, many_past, fails_bind, fails_same, reads_err}
use Rattle.selfgen_check.specs.Grammar.{pair_or_close_at, pairs_past, pairs_end_at}
use Rattle.selfgen_check.proofs.Steps.{pairs_end}
use Rattle.selfgen_check.proofs.reading.outcomes.Goals as goal

abbrev plain : Stream → Option (ℕ × ℤ) → Result (Option (ℕ × ℕ) × Stream) NfgFault
plain t p = Ok (option_map (λ o. (o.0, unsigned_abs o.1)) p, t)

pub loop-preserved : goal.loop-preserved
loop-preserved c =
    let k = c.loop.counter in
    let t = c.pair_or_close.new.tokens in
    let pair : ℕ × ℕ = (c.in-Some.pair.0, unsigned_abs c.in-Some.pair.1) in
    let low : pos 0 ≤ℤ c.in-Some.pair.1 = subst (λ (o : Option (ℕ × ℤ)). IfSome o (λ p. pos 0 ≤ℤ p.1)) c.in-Some.is c.in_ok-pair.ensures.not_negative in
    let high : c.in-Some.pair.1 ≤ℤ pos (2 ^ 83) = subst (λ (o : Option (ℕ × ℤ)). IfSome o (λ p. p.1 ≤ℤ pos (2 ^ 83))) c.in-Some.is c.in_ok-pair.ensures.small in
    let fits : FitsSigned w128 c.in-Some.pair.1 = fits_signed_from_abs w128 c.in-Some.pair.1 (omega (arith, ints, low, high)) in
    let kept : c.push.new.self ≡ c.loop.lottery ++ pair ∷ [] = first_of (assumption c.push.ensures, search (rules, to_z-of_z, fits, c.push.ensures), grind (arith, common_steps, to_z-of_z, fits, c.push.ensures)) in
    let long = ap length kept in
    record {
      same = many_more pair_or_close_at pairs_past (many_at pair_or_close_at pairs_past 4 c.args.tokens.now) (4 - k) (4 - (k + 1)) c.loop.lottery c.push.new.self
          pair c.loop.tokens t c.loop.invariant.same (omega arith)
          (c.in_ok-pair.ensures.value ∙ ap (plain t) c.in-Some.is) kept;
      few = omega (arith, length-append c.loop.lottery (pair ∷ []), c.loop.invariant.few);
    }

pub returns-in_err-pair : goal.returns-in_err-pair
returns-in_err-pair c =
    let k = c.loop.counter in
    let p = err_from_is_err_and c.from_residual.result c.from_residual.ensures.1 in
    let fault = c.in_err-pair.field-0.0 in
    let all = many_at pair_or_close_at pairs_past 4 c.args.tokens.now in
    reads_err (λ l. l) c.from_residual.result fault c.pair_or_close.new.tokens all (p.1 ∙ ap Err p.2)
    (many_fails pair_or_close_at pairs_past all (4 - k) (4 - (k + 1)) c.loop.lottery c.loop.tokens fault c.loop.invariant.same (omega arith) c.in_err-pair.ensures.value)

pub returns-in-None : goal.returns-in-None
returns-in-None c =
    let k = c.loop.counter in
    let t = c.pair_or_close.new.tokens in
    many_end pair_or_close_at pairs_past (many_at pair_or_close_at pairs_past 4 c.args.tokens.now) (4 - k) (4 - (k + 1)) c.loop.lottery c.loop.tokens t c.loop.invariant.same (omega arith)
    (c.in_ok-pair.ensures.value ∙ ap (plain t) c.in-None.is)

pub returns-in_err-pairs_end : goal.returns-in_err-pairs_end
returns-in_err-pairs_end c =
    let k = c.loop.counter in
    let p = err_from_is_err_and c.from_residual-in_err-pairs_end.result c.from_residual-in_err-pairs_end.ensures.1 in
    let fault = c.in_err-pairs_end.field-0.0 in
    let all = many_at pair_or_close_at pairs_past 4 c.args.tokens.now in
    reads_err (λ l. l) c.from_residual-in_err-pairs_end.result fault c.pairs_end.new.tokens all (p.1 ∙ ap Err p.2)
    (fails_same fault all (behind c.loop.lottery (pairs_past c.loop.tokens)) (many_past pair_or_close_at pairs_past all (4 - k) c.loop.lottery c.loop.tokens c.loop.invariant.same (omega arith))
    (fails_bind fault (pairs_past c.loop.tokens) (λ more. Ok (c.loop.lottery ++ more.0, more.1)) (fails_bind fault (pairs_end_at c.loop.tokens) (λ a. Ok ([], a)) c.in_err-pairs_end.ensures)))

pub returns : goal.returns
returns c =
    let k = c.loop.counter in
    many_past pair_or_close_at pairs_past (many_at pair_or_close_at pairs_past 4 c.args.tokens.now) (4 - k) c.loop.lottery c.loop.tokens c.loop.invariant.same (omega arith)
    ∙ pairs_end c.loop.lottery c.loop.tokens c.pairs_end.new.tokens c.in_ok-pairs_end.ensures
