use Rattle.std.proofs.Common.{◌≡◌, ℕ, ◌++◌, List, [], get_or, drop, sym, ap, ◌∙◌}
use Rattle.std.specs.Prelude.{codes}
use Rattle.std.proofs.lemmas.Bool.{true≢false}
use Rattle.level_table.specs.declared.reason.Item.{Item}
use Rattle.level_table.specs.declared.reason.Reason.TheVariants.{Successor, Deviation, Farkas}
use Rattle.report_text.specs.ReportText.{reason_words}
use Rattle.report_text.specs.Rules.{KeepsReason}
use Rattle.report_text.proofs.Items.{farkas_no_deviation}
use Rattle.report_text.proofs.noted.other_reason.Goals as goal

pub returns-then-next_is-clause-read : goal.returns-then-next_is-clause-read
returns-then-next_is-clause-read c = λ r rest k n0 n.
    elim r as (λ r. KeepsReason c.args.sizes r → c.args.words.now ≡ reason_words r ++ rest → (c.deviation.result ≡ r) × (c.deviation.new.words ≡ rest)) [
      | Successor t ↦ λ h e. absurd (n0 (ap (λ (ws : List (List ℕ)). get_or ws 0 []) e))
      | Deviation i b t ↦ λ h e. c.deviation.ensures.read i b t rest h.0 h.1 h.2 (c.skip.ensures ∙ ap (drop 1) e)
      | Farkas list ↦ λ h e.
          let w : codes "farkas" ≡ codes "deviation" = sym (ap (λ (ws : List (List ℕ)). get_or ws 0 []) e) ∙ c.next_is.ensures.0 c.if-next_is.true in
          absurd (farkas_no_deviation w)
    ] k

pub returns-else-next_is-clause-read : goal.returns-else-next_is-clause-read
returns-else-next_is-clause-read c = λ r rest k n0 n.
    elim r as (λ r. KeepsReason c.args.sizes r → c.args.words.now ≡ reason_words r ++ rest → (Farkas c.items.result ≡ r) × (c.items.new.words ≡ rest)) [
      | Successor t ↦ λ h e. absurd (n0 (ap (λ (ws : List (List ℕ)). get_or ws 0 []) e))
      | Deviation i b t ↦ λ h e. absurd (true≢false (sym (c.next_is.ensures.1 (ap (λ (ws : List (List ℕ)). get_or ws 0 []) e)) ∙ c.if-next_is.false))
      | Farkas list ↦ λ h e.
          let q = c.items.ensures.read list rest h.0 h.1 h.2 n (c.skip-else-next_is.ensures ∙ ap (drop 1) e) in
          (ap (λ (l : List Item). Farkas l) q.0, q.1)
    ] k
