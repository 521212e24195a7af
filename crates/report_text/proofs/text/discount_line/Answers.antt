use Rattle.report_text.proofs.ReportLemmas.{discount_from_words}
use Rattle.report_text.proofs.text.discount_line.Goals as goal

pub returns : goal.returns
returns c = discount_from_words c.args.discounts.now c.shown_discounts.result c.args.out.now.items c.extend_from_slice.new.self.items c.discount_words.new.out.items c.push.new.self.items c.shown_discounts.ensures.shown c.in_ok-extend_from_slice.ensures.items c.in_ok-discount_words.ensures c.in_ok-push.ensures.items
