use Rattle.std.proofs.Common.{◌≡◌, ℕ, ◌++◌, List, [], get_or, drop, sym, ap, ◌∙◌}
use Rattle.std.specs.Prelude.{codes}
use Rattle.std.proofs.lemmas.Bool.{true≢false}
use Rattle.level_table.specs.declared.reason.Reason.TheVariants.{Successor, Deviation, Farkas}
use Rattle.report_text.specs.ReportText.{reason_words}
use Rattle.report_text.specs.Rules.{KeepsReason}
use Rattle.report_text.proofs.Items.{farkas_no_successor, deviation_no_successor}
use Rattle.report_text.proofs.noted.reason.Goals as goal

pub returns-then-next_is-clause-read : goal.returns-then-next_is-clause-read
returns-then-next_is-clause-read c = λ r rest k n.
    elim r as (λ r. KeepsReason c.args.sizes r → c.args.words.now ≡ reason_words r ++ rest → (c.successor.result ≡ r) × (c.successor.new.words ≡ rest)) [
      | Successor t ↦ λ h e. c.successor.ensures.read t rest h (c.skip.ensures ∙ ap (drop 1) e)
      | Deviation i b t ↦ λ h e.
          let w : codes "deviation" ≡ codes "successor" = sym (ap (λ (ws : List (List ℕ)). get_or ws 0 []) e) ∙ c.next_is.ensures.0 c.if-next_is.true in
          absurd (deviation_no_successor w)
      | Farkas list ↦ λ h e.
          let w : codes "farkas" ≡ codes "successor" = sym (ap (λ (ws : List (List ℕ)). get_or ws 0 []) e) ∙ c.next_is.ensures.0 c.if-next_is.true in
          absurd (farkas_no_successor w)
    ] k

pub returns-else-next_is-clause-read : goal.returns-else-next_is-clause-read
returns-else-next_is-clause-read c = λ r rest k n e.
    c.other_reason.ensures.read r rest k (λ w. absurd (true≢false (sym (c.next_is.ensures.1 w) ∙ c.if-next_is.false))) n e
