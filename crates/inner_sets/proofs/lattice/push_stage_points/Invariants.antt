use Rattle.inner_sets.specs.Gains.{Adds, IsStagePointBelow}
use Rattle.inner_sets.proofs.lattice.push_stage_points.Given as goal

abbrev pub invariant-loop-a : goal.invariant-loop-a
invariant-loop-a l = Adds l.a (IsStagePointBelow l.game l.n l.s l.a) l.initial.points.items l.points.items
