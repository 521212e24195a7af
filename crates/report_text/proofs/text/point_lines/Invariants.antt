use Rattle.std.proofs.Common.{◌≡◌, ℕ, List, ◌++◌, take}
use Rattle.report_text.specs.ReportText.{AreTexts, IsPointLine}
use Rattle.report_text.proofs.text.point_lines.Given as goal

abbrev pub invariant-loop-i : goal.invariant-loop-i
invariant-loop-i l = (text : List ℕ) × (AreTexts (IsPointLine l.report) (take l.i l.supports) text × (l.out.items ≡ l.initial.out.items ++ text))
