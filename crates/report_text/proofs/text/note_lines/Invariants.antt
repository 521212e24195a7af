use Rattle.std.proofs.Common.{◌≡◌, ◌++◌}
use Rattle.report_text.specs.ReportText.{note_text, texts_below}
use Rattle.report_text.proofs.text.note_lines.Given as goal

abbrev pub invariant-loop-l : goal.invariant-loop-l
invariant-loop-l l = l.out.items ≡ l.fn.out.items ++ texts_below (note_text l.fn.notes.list) l.l
