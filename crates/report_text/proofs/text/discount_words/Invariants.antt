use Rattle.std.proofs.Common.{◌≡◌, ℕ, List, ◌++◌, pos}
use Rattle.report_text.specs.ReportText.{AreFractionWords, blanked, discount_at}
use Rattle.report_text.proofs.text.discount_words.Given as goal

abbrev pub invariant-loop-i : goal.invariant-loop-i
invariant-loop-i l = (words : List (List ℕ)) × (AreFractionWords l.i (λ i. pos (discount_at l.discounts i).0) (λ i. pos (discount_at l.discounts i).1) words × (l.out.items ≡ l.initial.out.items ++ blanked words))
