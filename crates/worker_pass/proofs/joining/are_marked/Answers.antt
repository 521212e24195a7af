use Rattle.std.proofs.Common.{below_more, refl}
use Rattle.worker_pass.specs.Work.{HasMarked}
use Rattle.worker_pass.proofs.joining.are_marked.Goals as goal

pub loop-row-preserved : goal.loop-row-preserved
loop-row-preserved c = λ r. below_more (HasMarked c.args.workers.now.items) c.loop-row.row c.loop-row.invariant (c.if-not-is_marked.ensures refl) r
