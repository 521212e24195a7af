use Rattle.std.proofs.Common.{List, ℕ, [], ◌∷◌, ◌++◌, ap, ◌∙◌}
use Rattle.std.specs.Prelude.{codes}
use Rattle.std.proofs.lemmas.Result.{on_ok_weaker}
use Rattle.report_text.specs.ReportText.{line}
use Rattle.report_text.proofs.ReportLemmas.{head_from_lines}
use Rattle.report_text.proofs.text.head.Goals as goal

pub returns : goal.returns
returns c =
    on_ok_weaker c.count_lines.result
    (λ last. head_from_lines c.args.report.now c.in_ok-discount_line.ensures.0 c.args.out.now.items c.word_line.new.out.items c.word_line-2.new.out.items c.size_lines.new.out.items c.discount_line.new.out.items c.count_lines.new.out.items
    c.in_ok-discount_line.ensures.1.0
    c.in_ok-word_line.ensures
    (c.in_ok-word_line-2.ensures ∙ ap (λ (w : List ℕ). c.word_line.new.out.items ++ line (codes "status") (w ∷ [])) c.status.ensures)
    c.in_ok-size_lines.ensures
    c.in_ok-discount_line.ensures.1.1
    last)
    c.count_lines.ensures
