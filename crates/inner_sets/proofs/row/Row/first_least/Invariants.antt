use Rattle.std.proofs.Common.{◌≡◌, ◌<◌, ◌≤◌, ◌^◌}
use Rattle.std.specs.Prelude.{unsigned_abs}
use Rattle.game_model.specs.SelfGeneration.{part}
use Rattle.hull_weights.specs.Hull.{point_at}
use Rattle.inner_sets.specs.Choice.{IsFirstLeastBelow}
use Rattle.inner_sets.specs.Rows.{points_in}
use Rattle.inner_sets.proofs.row.Row.first_least.Given as goal

abbrev pub invariant-loop-k : goal.invariant-loop-k
invariant-loop-k l = record {
  least : 0 < l.k → IsFirstLeastBelow l.i (points_in l.self) l.k l.place;
  value : 0 < l.k → l.least ≡ part (point_at (points_in l.self) l.place) l.i;
  small : unsigned_abs l.least ≤ 2 ^ 30;
}
