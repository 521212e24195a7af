use Rattle.inner_sets.specs.Gains.{IsRangeBelow}
use Rattle.inner_sets.proofs.lattice.range_of.Given as goal

abbrev pub invariant-loop-s : goal.invariant-loop-s
invariant-loop-s l = IsRangeBelow l.game l.s l.i l.range.0 l.range.1
