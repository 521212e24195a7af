use Rattle.std.proofs.Common.{◌≡◌, ℕ, List, ◌++◌, pos}
use Rattle.game_model.specs.SelfGeneration.{part}
use Rattle.report_text.specs.ReportText.{AreFractionWords, blanked}
use Rattle.report_text.proofs.sets.point.Given as goal

abbrev pub invariant-loop-i : goal.invariant-loop-i
invariant-loop-i l = (words : List (List ℕ)) × (AreFractionWords l.i (part l.entry.point) (λ i. pos l.sets.common) words × (l.out.items ≡ l.initial.out.items ++ blanked words))
