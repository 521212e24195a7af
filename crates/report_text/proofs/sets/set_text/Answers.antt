use Rattle.std.proofs.Common.{◌≡◌, length}
use Rattle.std.proofs.lemmas.Result.{on_ok_weaker}
use Rattle.report_text.specs.ReportText.{set_at}
use Rattle.report_text.proofs.SetLemmas.{set_from_lines}
use Rattle.report_text.proofs.sets.set_text.Goals as goal

pub returns : goal.returns
returns c =
    let n : c.len.result ≡ length (set_at c.args.sets.now c.args.s) = cc in
    on_ok_weaker c.entry_lines.result
    (set_from_lines c.args.report.now c.args.sets.now c.args.s c.len.result c.args.out.now.items c.set_line.new.out.items c.entry_lines.new.out.items n c.in_ok-set_line.ensures)
    c.entry_lines.ensures
