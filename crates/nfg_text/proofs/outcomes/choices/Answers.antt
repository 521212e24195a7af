use Rattle.std.proofs.Common.{◌≡◌, ◌-◌, ◌+◌, List, [], ◌∷◌, ◌++◌, Ok, Err, Result, refl, ap, ◌∙◌, sym, arith}
use Rattle.std.proofs.lemmas.Result.{err_from_is_err_and}
use Rattle.pay_frac.specs.Ratio.{Ratio}
use Rattle.token_text.specs.Tokens.{Stream}
use Rattle.nfg_text.specs.declared.fault.NfgFault.{NfgFault}
use Rattle.nfg_text.specs.declared.outcomes.Outcome.{Outcome}
use Rattle.nfg_text.specs.Wanted.{◌>>=◌, times_at}
use Rattle.nfg_text.specs.Grammar.{choice_at, choices_at, payoffs_of}
use Rattle.nfg_text.proofs.Loops.{times_start, times_more, times_end, times_fails, fails_bind, reads_err}
use Rattle.nfg_text.proofs.outcomes.choices.Goals as goal

payoffs_more : (os : List Outcome) (o : Outcome) → payoffs_of (os ++ o ∷ []) ≡ payoffs_of os ++ o.first ∷ [] ++ o.second ∷ []
payoffs_more [] o = refl
payoffs_more (p ∷ os) o = ap (λ l. p.first ∷ p.second ∷ l) (payoffs_more os o)

pub loop-init : goal.loop-init
loop-init c =
    ([], c.new-payoffs.ensures, times_start (choice_at c.args.outcomes.now) c.args.profiles (c.args.profiles - 0) [] c.args.tokens.now (omega arith) refl)

pub loop-preserved : goal.loop-preserved
loop-preserved c =
    let n = c.args.profiles in
    let k = c.loop.counter in
    let item = choice_at c.args.outcomes.now in
    let chosen = c.loop.invariant.0 in
    let o = c.in_ok-outcome.outcome in (
      chosen ++ o ∷ [],
      c.in_ok-put-2.ensures.kept ∙ ap (λ l. l ++ o.second ∷ []) (c.in_ok-put.ensures.kept ∙ ap (λ l. l ++ o.first ∷ []) c.loop.invariant.1) ∙ sym (payoffs_more chosen o),
      times_more item (times_at item n c.args.tokens.now) (n - k) (n - (k + 1)) chosen (chosen ++ o ∷ []) o c.loop.tokens c.choice.new.tokens c.loop.invariant.2 (omega arith) c.in_ok-outcome.ensures refl,
    )

pub returns-in_err-outcome : goal.returns-in_err-outcome
unfolding choices_at
returns-in_err-outcome c =
    let n = c.args.profiles in
    let k = c.loop.counter in
    let item = choice_at c.args.outcomes.now in
    let p = err_from_is_err_and c.from_residual.result c.from_residual.ensures.1 in
    let fault = c.in_err-outcome.field-0.0 in
    let all = times_at item n c.args.tokens.now in
    reads_err (λ ps. ps) c.from_residual.result fault c.choice.new.tokens (choices_at c.args.outcomes.now n c.args.tokens.now) (p.1 ∙ ap Err p.2)
    (fails_bind fault all (λ chosen. Ok (payoffs_of chosen.0, chosen.1))
    (times_fails item all (n - k) (n - (k + 1)) c.loop.invariant.0 c.loop.tokens fault c.loop.invariant.2 (omega arith) c.in_err-outcome.ensures))

pub returns : goal.returns
unfolding choices_at
returns c =
    let n = c.args.profiles in
    let item = choice_at c.args.outcomes.now in
    let flat : Result (List Outcome × Stream) NfgFault → Result (List Ratio × Stream) NfgFault = λ r. r >>= λ chosen. Ok (payoffs_of chosen.0, chosen.1) in
    ap flat (times_end item (times_at item n c.args.tokens.now) (n - c.loop.counter) c.loop.invariant.0 c.loop.tokens c.loop.invariant.2 (omega arith))
    ∙ ap (λ l. Ok (l, c.loop.tokens)) (sym c.loop.invariant.1)
