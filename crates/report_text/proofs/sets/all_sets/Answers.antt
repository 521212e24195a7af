use Rattle.report_text.specs.ReportText.{IsSetText}
use Rattle.report_text.proofs.SetLemmas.{texts_below_more}
use Rattle.report_text.proofs.sets.all_sets.Goals as goal

pub loop-s-preserved : goal.loop-s-preserved
loop-s-preserved c = texts_below_more (IsSetText c.args.report.now c.args.sets.now) c.loop-s.s c.args.out.now.items c.loop-s.out.items c.set_text.new.out.items c.loop-s.invariant c.in_ok-set_text.ensures
