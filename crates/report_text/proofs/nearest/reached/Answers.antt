use Rattle.std.proofs.Common.{◌≡◌, ℕ, List, [], ◌∷◌, get_or, drop, sym, ap, ◌∙◌}
use Rattle.std.specs.Prelude.{codes, Some, None}
use Rattle.std.proofs.lemmas.Bool.{true≢false}
use Rattle.pay_frac.specs.Ratio.{Ratio}
use Rattle.report_text.specs.ReportText.{reached_word}
use Rattle.report_text.specs.Rules.{IsShortValue}
use Rattle.report_text.proofs.Keywords.{none_is}
use Rattle.report_text.proofs.nearest.reached.Goals as goal

pub returns-then-next_is-clause-read : goal.returns-then-next_is-clause-read
returns-then-next_is-clause-read c = λ o rest short e.
    let w : get_or c.args.words.now 0 [] ≡ codes "none" = c.next_is.ensures.0 c.if-next_is.true in
    (sym (none_is o short (sym (ap (λ (ws : List (List ℕ)). get_or ws 0 []) e) ∙ w)), c.skip.ensures ∙ ap (drop 1) e)

pub returns-else-next_is-clause-read : goal.returns-else-next_is-clause-read
returns-else-next_is-clause-read c = λ o rest.
    elim o as (λ o. IsShortValue o → c.args.words.now ≡ reached_word o ∷ rest → (Some c.fraction.result ≡ o) × (c.fraction.new.self ≡ rest)) [
      | None ↦ λ short e. absurd (true≢false (sym (c.next_is.ensures.1 (ap (λ (ws : List (List ℕ)). get_or ws 0 []) e)) ∙ c.if-next_is.false))
      | Some q ↦ λ short e. (ap (λ (r : Ratio). Some r) (c.fraction.ensures.read q short.0 short.1 (ap (λ (ws : List (List ℕ)). get_or ws 0 []) e)), c.fraction.ensures.rest ∙ ap (drop 1) e)
    ]
