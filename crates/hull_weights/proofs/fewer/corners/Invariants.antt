use Rattle.std.proofs.Common.{◌^◌, ◌<◌, length}
use Rattle.std.specs.Prelude.{All}
use Rattle.hull_weights.specs.Hull.{IsSmallPoint}
use Rattle.hull_weights.specs.SameHull.{HaveSameHull}
use Rattle.hull_weights.proofs.fewer.corners.Given as goal

abbrev pub invariant-tries : goal.invariant-tries
invariant-tries l = record {
  hull : HaveSameHull l.kept.items l.points;
  few : length l.kept.items < 2 ^ 32;
  small : All IsSmallPoint l.kept.items;
}
