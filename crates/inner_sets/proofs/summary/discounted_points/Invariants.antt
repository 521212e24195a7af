use Rattle.std.proofs.Common.{◌≡◌, length, map, take}
use Rattle.std.specs.Prelude.{All}
use Rattle.hull_weights.specs.Hull.{IsSmallPoint}
use Rattle.inner_sets.specs.Choice.{discounted}
use Rattle.inner_sets.specs.Rows.{points_in}
use Rattle.inner_sets.proofs.summary.discounted_points.Given as goal

abbrev pub invariant-loop-k : goal.invariant-loop-k
invariant-loop-k l = record {
  count : length l.points.items ≡ l.k;
  is : l.points.items ≡ map (discounted l.game) (take l.k (points_in l.row));
  small : All IsSmallPoint l.points.items;
}
