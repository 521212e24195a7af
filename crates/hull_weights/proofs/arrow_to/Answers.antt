use Rattle.std.proofs.Common.{[], arith}
use Rattle.hull_weights.specs.Hull.{x_of, y_of, point_at}
use Rattle.hull_weights.proofs.Sizes.{part_difference}
use Rattle.hull_weights.proofs.arrow_to.Goals as goal

pub returns-clause-arrow : goal.returns-clause-arrow
returns-clause-arrow c =
    let point = c.requires.points_small c.args.index [] c.requires.within in
    record {
      seen_already = omega arith;
      x_is = part_difference (x_of (point_at c.args.points.now c.args.index)) (x_of c.args.target) point.x_small c.requires.target_small.x_small;
      y_is = part_difference (y_of (point_at c.args.points.now c.args.index)) (y_of c.args.target) point.y_small c.requires.target_small.y_small;
    }
