use Rattle.std.proofs.Common.{◌≡◌, ℕ, List, refl, sym, subst, ◌∙◌}
use Rattle.std.specs.Prelude.{codes, ◌↔◌, IsTrue}
use Rattle.std.proofs.lemmas.Bool.{true≢false}
use Rattle.set_operator.specs.declared.row.Verdict.TheVariants.{Supported, Unsupported}
use Rattle.report_text.specs.ReportText.{status_word}
use Rattle.report_text.specs.Reading.{BeginsWithVerdict}
use Rattle.report_text.specs.Rules.{IsSameVerdict, KeepsVerdict}
use Rattle.report_text.proofs.Verdicts.{no_verdict, spent_no_settled, stopped_is}
use Rattle.report_text.proofs.nearest.verdict.Goals as goal
use Rattle.report_text.proofs.nearest.verdict.Goals.{then-not-settled+in_default, else-not-settled}

pub returns-in-Some-clause-read : goal.returns-in-Some-clause-read
returns-in-Some-clause-read c = λ v rest.
    elim v as (λ v. KeepsVerdict c.args.sizes c.args.levels.now v → (IsTrue c.args.settled ↔ (status_word v ≡ codes "settled")) → BeginsWithVerdict c.args.sizes v c.args.words.now rest
    → IsSameVerdict c.args.sizes.players v c.in-Some.verdict × (c.stop.new.words ≡ rest)) [
      | Supported ss ↦ λ k s b. absurd (true≢false (sym (s.1 refl) ∙ c.if-not-settled.true))
      | Unsupported row level reached ↦ λ k s b.
          let r = c.in-Some.ensures.read row level reached rest k b in
          (stopped_is c.args.sizes.players row level reached c.in-Some.verdict r.0, r.1)
    ]

pub returns-clause-read : goal.returns-clause-read
returns-clause-read c = λ v rest.
    elim v as (λ v. KeepsVerdict c.args.sizes c.args.levels.now v → (IsTrue c.args.settled ↔ (status_word v ≡ codes "settled")) → BeginsWithVerdict c.args.sizes v c.args.words.now rest
    → IsSameVerdict c.args.sizes.players v (Supported c.in_ok-supports.field-0) × (c.supports.new.words ≡ rest)) [
      | Supported ss ↦ λ k s b. elim c.if-not-settled.branch [
        | then-not-settled+in_default w ↦ absurd (true≢false (sym (s.1 refl) ∙ w.if-not-settled.true))
        | else-not-settled w ↦ c.in_ok-supports.ensures.read ss rest k (subst (λ (ws : List (List ℕ)). BeginsWithVerdict c.args.sizes (Supported ss) ws rest) (sym w.words-is) b)
      ]
      | Unsupported row level reached ↦ λ k s b. elim c.if-not-settled.branch [
        | then-not-settled+in_default w ↦ absurd (no_verdict w.stop.result (Unsupported row level reached) w.in_default.is (w.stop.ensures.read row level reached rest k b).0)
        | else-not-settled w ↦ absurd (spent_no_settled (s.0 w.if-not-settled.false))
      ]
    ]
