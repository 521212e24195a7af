use Rattle.std.proofs.Common.{arith}
use Rattle.report_text.specs.ReportText.{IsPointLine}
use Rattle.report_text.proofs.ReportLemmas.{texts_more}
use Rattle.report_text.proofs.text.point_lines.Goals as goal

pub loop-i-preserved : goal.loop-i-preserved
loop-i-preserved c =
    texts_more (IsPointLine c.args.report.now) c.args.supports.now c.loop-i.i c.get.result.now c.args.out.now.items c.loop-i.out.items c.point_line.new.out.items (omega arith) c.get.ensures c.loop-i.invariant c.in_ok-point_line.ensures
