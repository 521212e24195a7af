use Rattle.std.proofs.Common.{◌≡◌, ℕ, ◌<◌, length}
use Rattle.hull_weights.specs.Hull.{point_at}
use Rattle.inner_sets.specs.Rows.{item_at}
use Rattle.inner_sets.proofs.row.Row.of.Given as goal

abbrev pub invariant-loop-k : goal.invariant-loop-k
invariant-loop-k l = record {
  count : length l.items.items ≡ l.k;
  each : (j : ℕ) → j < l.k → item_at l.items.items j ≡ record { point = point_at l.points j; profile = 0 };
}
