use Rattle.std.proofs.Common.{◌≡◌, ℕ, List, ◌++◌}
use Rattle.report_text.specs.ReportText.{AreTextsBelow, IsEntryLine}
use Rattle.report_text.proofs.sets.entry_lines.Given as goal

abbrev pub invariant-loop-j : goal.invariant-loop-j
invariant-loop-j l = (text : List ℕ) × (AreTextsBelow (IsEntryLine l.report l.sets l.s) l.j text × (l.out.items ≡ l.initial.out.items ++ text))
