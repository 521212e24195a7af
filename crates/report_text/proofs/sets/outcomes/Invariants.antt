use Rattle.std.proofs.Common.{◌≡◌, ◌++◌, map, take}
use Rattle.report_text.specs.ReportText.{blanked, outcome_word}
use Rattle.report_text.proofs.sets.outcomes.Given as goal

abbrev pub invariant-loop-i : goal.invariant-loop-i
invariant-loop-i l = l.out.items ≡ l.initial.out.items ++ blanked (map outcome_word (take l.i l.lottery))
