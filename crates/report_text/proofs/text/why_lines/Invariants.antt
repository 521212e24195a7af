use Rattle.std.proofs.Common.{◌≡◌, ◌++◌}
use Rattle.report_text.specs.ReportText.{why_line, texts_below}
use Rattle.report_text.proofs.text.why_lines.Given as goal

abbrev pub invariant-loop-a : goal.invariant-loop-a
invariant-loop-a l = l.out.items ≡ l.fn.out.items ++ texts_below (why_line l.fn.s l.fn.reasons.list) l.a
