use Rattle.std.proofs.Common.{List, ℕ, ◌++◌, ap, ◌∙◌}
use Rattle.report_text.proofs.ReportLemmas.{report_from_parts}
use Rattle.report_text.proofs.text.text_of.Goals as goal

pub returns : goal.returns
returns c =
    report_from_parts c.args.report.now c.head.new.out.items c.row_lines.new.out.items c.verdict_lines.new.out.items c.note_lines.new.out.items c.set_lines.new.out.items c.extend_from_slice.new.self.items
    c.in_ok-head.ensures.0 c.in_ok-verdict_lines.ensures.0 c.in_ok-set_lines.ensures.0 c.in_ok-head.ensures.1.0 c.in_ok-verdict_lines.ensures.1.0 c.in_ok-set_lines.ensures.1.0
    (c.in_ok-head.ensures.1.1 ∙ ap (λ (t : List ℕ). t ++ c.in_ok-head.ensures.0) c.new-out.ensures.items)
    c.in_ok-row_lines.ensures c.in_ok-verdict_lines.ensures.1.1 c.in_ok-note_lines.ensures c.in_ok-set_lines.ensures.1.1 c.in_ok-extend_from_slice.ensures.items
