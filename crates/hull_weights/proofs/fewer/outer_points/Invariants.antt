use Rattle.std.proofs.Common.{ℕ, ◌+◌, ◌<◌, ◌≤◌, List, length}
use Rattle.std.specs.Prelude.{ℤ, Contains}
use Rattle.hull_weights.specs.Hull.{IsInHull, point_at}
use Rattle.hull_weights.proofs.fewer.outer_points.Given as goal

abbrev pub invariant-loop-index : goal.invariant-loop-index
invariant-loop-index l = record {
  points : (v : List ℤ) → Contains l.kept.items v → Contains l.points v;
  done : (j : ℕ) → j < l.index → IsInHull l.kept.items (point_at l.points j);
  few : length l.kept.items ≤ 8 + l.index;
}
