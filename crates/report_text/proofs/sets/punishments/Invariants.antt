use Rattle.std.proofs.Common.{◌≡◌, ◌++◌, map, take}
use Rattle.std.specs.Prelude.{decimal}
use Rattle.report_text.specs.ReportText.{blanked}
use Rattle.report_text.proofs.sets.punishments.Given as goal

abbrev pub invariant-loop-i : goal.invariant-loop-i
invariant-loop-i l = l.out.items ≡ l.initial.out.items ++ blanked (map decimal (take l.i l.punish))
