use Rattle.std.proofs.Common.{arith}
use Rattle.std.specs.Prelude.{decimal}
use Rattle.report_text.proofs.SetLemmas.{mapped_more}
use Rattle.report_text.proofs.sets.punishments.Goals as goal

pub loop-i-preserved : goal.loop-i-preserved
loop-i-preserved c = mapped_more decimal c.args.punish.now c.loop-i.i c.get.result.now c.args.out.now.items c.loop-i.out.items c.number.new.out.items (omega arith) c.get.ensures c.loop-i.invariant c.in_ok-number.ensures
