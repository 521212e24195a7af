use Rattle.inner_sets.specs.Gains.{IsStateRange}
use Rattle.inner_sets.proofs.lattice.range_in.Given as goal

abbrev pub invariant-loop-a : goal.invariant-loop-a
invariant-loop-a l = IsStateRange l.game l.s l.a l.i l.range.0 l.range.1
