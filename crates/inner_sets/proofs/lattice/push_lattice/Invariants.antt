use Rattle.std.proofs.Common.{◌*◌}
use Rattle.inner_sets.specs.Gains.{Adds, IsGridBelow}
use Rattle.inner_sets.proofs.lattice.push_lattice.Given as goal

abbrev pub invariant-loop-j : goal.invariant-loop-j
invariant-loop-j l = Adds (17 * l.j) (IsGridBelow l.n l.first.0 l.first.1 l.second.0 l.second.1 l.j) l.initial.points.items l.points.items
