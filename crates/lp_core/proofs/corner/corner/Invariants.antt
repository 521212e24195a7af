use Rattle.lp_core.proofs.Corners.{IsCornerTo}
use Rattle.lp_core.proofs.corner.corner.Given as goal

abbrev pub invariant-loop-k : goal.invariant-loop-k
invariant-loop-k l = IsCornerTo l.k l.program l.objective l.num l.items
