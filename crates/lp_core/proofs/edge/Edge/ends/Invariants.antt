use Rattle.std.proofs.Common.{◌-◌, ◌<◌, ◌≤◌}
use Rattle.lp_core.specs.Planar.{AreEnds, lines_of, pivot_of}
use Rattle.lp_core.proofs.edge.Edge.ends.Given as goal

abbrev pub invariant-loop-l : goal.invariant-loop-l
invariant-loop-l l = (4 ≤ l.l) × AreEnds (lines_of l.rows) (pivot_of l.self) (1 - l.self.place) (λ i. i < l.l) (λ i. i < l.r) l.ends
