use Rattle.std.proofs.Common.{◌≤◌, List, length}
use Rattle.std.specs.Prelude.{ℤ, Contains}
use Rattle.hull_weights.proofs.fewer.farthest_points.Given as goal

abbrev pub invariant-loop-k : goal.invariant-loop-k
invariant-loop-k l = record {
  points : (v : List ℤ) → Contains l.kept.items v → Contains l.points v;
  few : length l.kept.items ≤ l.k;
}
