use Rattle.report_text.proofs.ReportLemmas.{point_from_words}
use Rattle.report_text.proofs.text.point_line.Goals as goal

pub returns : goal.returns
returns c =
    point_from_words c.args.report.now c.args.support.now c.args.out.now.items c.extend_from_slice.new.self.items c.place.new.out.items c.number.new.out.items c.parts.new.out.items c.push.new.self.items
    c.in_ok-extend_from_slice.ensures.items c.in_ok-place.ensures c.in_ok-number.ensures c.in_ok-parts.ensures c.in_ok-push.ensures.items
