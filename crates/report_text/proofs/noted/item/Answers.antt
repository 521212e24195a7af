use Rattle.std.proofs.Common.{◌≡◌, ℕ, ◌++◌, List, [], ◌∷◌, get_or, drop, sym, ap, ◌∙◌}
use Rattle.std.specs.Prelude.{codes, decimal}
use Rattle.std.specs.Fmt.{signed_decimal}
use Rattle.std.proofs.lemmas.Bool.{true≢false}
use Rattle.level_table.specs.declared.reason.Item.TheVariants.{Level, Gain}
use Rattle.report_text.specs.ReportText.{item_words}
use Rattle.report_text.specs.Rules.{KeepsItem}
use Rattle.report_text.proofs.Items.{level_words, gain_words, gain_no_level}
use Rattle.report_text.proofs.noted.item.Goals as goal

pub returns-then-next_is-clause-read : goal.returns-then-next_is-clause-read
returns-then-next_is-clause-read c = λ item rest.
    elim item as (λ item. KeepsItem c.args.sizes item → c.args.words.now ≡ item_words item ++ rest → (c.level_item.result ≡ item) × (c.level_item.new.words ≡ rest)) [
      | Level k x times ↦ λ h e.
          let e' : c.args.words.now ≡ codes "level" ∷ decimal k ∷ signed_decimal x ∷ signed_decimal times ∷ rest = e ∙ ap (λ (ws : List (List ℕ)). ws ++ rest) (level_words k x times h.2.0) in
          c.level_item.ensures.read k x times rest h.0 h.1 h.2 (c.skip.ensures ∙ ap (drop 1) e')
      | Gain i b x times ↦ λ h e.
          let e' : c.args.words.now ≡ codes "gain" ∷ decimal i ∷ decimal b ∷ signed_decimal x ∷ signed_decimal times ∷ rest = e ∙ ap (λ (ws : List (List ℕ)). ws ++ rest) (gain_words i b x times h.3.0) in
          let w : codes "gain" ≡ codes "level" = sym (ap (λ (ws : List (List ℕ)). get_or ws 0 []) e') ∙ c.next_is.ensures.0 c.if-next_is.true in
          absurd (gain_no_level w)
    ]

pub returns-else-next_is-clause-read : goal.returns-else-next_is-clause-read
returns-else-next_is-clause-read c = λ item rest.
    elim item as (λ item. KeepsItem c.args.sizes item → c.args.words.now ≡ item_words item ++ rest → (c.gain_item.result ≡ item) × (c.gain_item.new.words ≡ rest)) [
      | Level k x times ↦ λ h e.
          let e' : c.args.words.now ≡ codes "level" ∷ decimal k ∷ signed_decimal x ∷ signed_decimal times ∷ rest = e ∙ ap (λ (ws : List (List ℕ)). ws ++ rest) (level_words k x times h.2.0) in
          absurd (true≢false (sym (c.next_is.ensures.1 (ap (λ (ws : List (List ℕ)). get_or ws 0 []) e')) ∙ c.if-next_is.false))
      | Gain i b x times ↦ λ h e.
          let e' : c.args.words.now ≡ codes "gain" ∷ decimal i ∷ decimal b ∷ signed_decimal x ∷ signed_decimal times ∷ rest = e ∙ ap (λ (ws : List (List ℕ)). ws ++ rest) (gain_words i b x times h.3.0) in
          c.gain_item.ensures.read i b x times rest h.0 h.1 h.2 h.3 (c.skip-else-next_is.ensures ∙ ap (drop 1) e')
    ]
