use Rattle.std.proofs.Common.{arith}
use Rattle.hull_weights.proofs.Hulls.{same_hull, same_twice}
use Rattle.hull_weights.proofs.fewer.corners.Goals as goal

pub tries-preserved : goal.tries-preserved
tries-preserved c = record {
  hull = same_twice c.drop_last_if_inside.new.kept.items c.tries.kept.items c.args.points.now c.in_ok-drop_last_if_inside.ensures.hull c.tries.invariant.hull;
  few = omega (arith, c.in_ok-drop_last_if_inside.ensures.few, c.tries.invariant.few);
  small = c.in_ok-drop_last_if_inside.ensures.small;
}

pub returns-clause-hull : goal.returns-clause-hull
returns-clause-hull c = same_hull c.tries.kept.items c.args.points.now c.tries.invariant.hull
