use Rattle.report_text.specs.ReportText.{IsEntryLine}
use Rattle.report_text.proofs.SetLemmas.{texts_below_more}
use Rattle.report_text.proofs.sets.entry_lines.Goals as goal

pub loop-j-preserved : goal.loop-j-preserved
loop-j-preserved c = texts_below_more (IsEntryLine c.args.report.now c.args.sets.now c.args.s) c.loop-j.j c.args.out.now.items c.loop-j.out.items c.entry_line.new.out.items c.loop-j.invariant c.in_ok-entry_line.ensures
