use Rattle.std.proofs.Common.{below_more}
use Rattle.selfgen_check.proofs.checker.first_fault_in.Goals as goal

pub loop-k-preserved : goal.loop-k-preserved
loop-k-preserved c = below_more _ _ c.loop-k.invariant (rw (← c.entry.ensures) c.in-None.ensures.none)
