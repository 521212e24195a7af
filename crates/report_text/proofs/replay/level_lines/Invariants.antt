use Rattle.std.proofs.Common.{◌≡◌, ◌++◌}
use Rattle.report_text.specs.ReportText.{texts_below}
use Rattle.report_text.specs.ReplayText.{table_line}
use Rattle.report_text.proofs.replay.level_lines.Given as goal

abbrev pub invariant-loop-row : goal.invariant-loop-row
invariant-loop-row l = l.out.items ≡ l.fn.out.items ++ texts_below (table_line l.fn.levels) l.row
