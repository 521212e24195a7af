use Rattle.inner_sets.specs.Gains.{Adds, IsColumnBelow}
use Rattle.inner_sets.proofs.lattice.push_column.Given as goal

abbrev pub invariant-loop-j : goal.invariant-loop-j
invariant-loop-j l = Adds l.j (IsColumnBelow l.n l.first l.range.0 l.range.1 l.j) l.initial.points.items l.points.items
