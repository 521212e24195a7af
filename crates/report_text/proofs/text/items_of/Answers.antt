use Rattle.std.proofs.Common.{sym, arith}
use Rattle.std.proofs.lemmas.Option.{get_or_from_slice_get}
use Rattle.report_text.proofs.ReportLemmas.{items_more}
use Rattle.report_text.proofs.text.items_of.Goals as goal

pub loop-i-preserved : goal.loop-i-preserved
loop-i-preserved c =
    let x = c.get.result.now in
    items_more c.args.out.now.items c.loop-i.out.items c.item.new.out.items c.args.items.now c.loop-i.i x (omega (arith, c.len-i-end.ensures.value, c.loop-i-test.true))
    (sym (get_or_from_slice_get c.args.items.now c.loop-i.i x x c.get.ensures)) c.loop-i.invariant c.in_ok-item.ensures
