-- What the reader answers, from what it read and the text of that.
use Rattle.std.proofs.Common.{◌≡◌, ◌≢◌, ℕ, ◌+◌, List, [], ◌∷◌, Result, Ok, Err, refl, sym, subst}
use Rattle.std.specs.Prelude.{IfErr, IfOk}
use Rattle.level_table.specs.declared.level.Level.{Level}
use Rattle.level_table.specs.declared.level.Level.TheVariants.{Empty, At}
use Rattle.level_table.specs.Levels.{Table}
use Rattle.set_operator.specs.declared.row.Support.{Support}
use Rattle.set_operator.specs.declared.row.Verdict.{Verdict}
use Rattle.set_operator.specs.declared.row.Verdict.TheVariants.{Supported, Unsupported}
use Rattle.report_lines.specs.Forms.{place_of}
use Rattle.report_text.specs.declared.read.ReportFault.{ReportFault}
use Rattle.report_text.specs.declared.read.ReportFault.TheVariants.{Bad}
use Rattle.report_text.specs.declared.report.Report.{Report}
use Rattle.report_text.specs.declared.rules.Sizes.{Sizes}
use Rattle.report_text.specs.ReportText.{IsReportText}
use Rattle.report_text.specs.Rules.{Agrees, AreSupports, IsFaultOf, KeepsRules, KeepsVerdict, sizes_of}
use Rattle.report_text.proofs.SameText.{ArePositive, HasPositive, one_text}

supports_positive : (players row : ℕ) (ls : List Level) (ss : List Support) → AreSupports players row ls ss → ArePositive ss
supports_positive players row [] [] h = tt
supports_positive players row [] (s ∷ ss) h = absurd h
supports_positive players row (Empty ∷ ls) ss h = supports_positive players (row + 1) ls ss h
supports_positive players row (At x ∷ ls) [] h = tt
supports_positive players row (At x ∷ ls) (s ∷ ss) h = (h.0.point.positive, supports_positive players (row + 1) ls ss h.1)

verdict_positive : (z : Sizes) (t : Table) (v : Verdict) → KeepsVerdict z t v → HasPositive v
verdict_positive z t (Supported supports) h = supports_positive z.players 0 t.levels supports h
verdict_positive z t (Unsupported row level reached) h = tt

-- the report that was read has the bytes for its text, where any report has
pub text_again : (a r : Report) (bytes text : List ℕ) → KeepsRules a → KeepsRules r → Agrees a r → IsReportText a bytes → IsReportText r text → bytes ≡ text
text_again a r bytes text k h same x y =
    one_text a r bytes text same h.discounts.each (verdict_positive (sizes_of a) a.levels a.verdict k.verdict) (verdict_positive (sizes_of r) r.levels r.verdict h.verdict) k.no_sets.0 h.no_sets.0 x y

pub ok_gives : (P : Report → Type 0) (result : Result Report ReportFault) (report : Report) (text bytes : List ℕ)
    → IfOk result (λ r. (r ≡ report) × (text ≡ bytes)) → (text ≡ bytes → P report) → IfOk result P
ok_gives P (Ok r) report text bytes h f = subst P (sym h.0) (f h.1)
ok_gives P (Err e) report text bytes h f = tt

pub err_gives : (result : Result Report ReportFault) (text bytes : List ℕ)
    → IfErr result (λ e. (e ≡ Bad (place_of bytes)) × (text ≢ bytes)) → ((a : Report) → KeepsRules a → IsReportText a bytes → bytes ≡ text) → IfErr result (IsFaultOf bytes)
err_gives (Ok r) text bytes h f = tt
err_gives (Err e) text bytes h f = subst (IsFaultOf bytes) (sym h.0) ((λ a k x. h.1 (sym (f a k x))), refl)
