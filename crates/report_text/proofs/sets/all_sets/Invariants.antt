use Rattle.std.proofs.Common.{◌≡◌, ℕ, List, ◌++◌}
use Rattle.report_text.specs.ReportText.{AreTextsBelow, IsSetText}
use Rattle.report_text.proofs.sets.all_sets.Given as goal

abbrev pub invariant-loop-s : goal.invariant-loop-s
invariant-loop-s l = (text : List ℕ) × (AreTextsBelow (IsSetText l.report l.sets) l.s text × (l.out.items ≡ l.initial.out.items ++ text))
