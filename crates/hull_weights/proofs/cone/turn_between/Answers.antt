use Rattle.hull_weights.proofs.Sizes.{difference_inside, small_difference, fits_inside, code_inside, small_inside}
use Rattle.hull_weights.proofs.cone.turn_between.Goals as goal

pub overflow_sub-result : goal.overflow_sub-result
overflow_sub-result c =
    fits_inside _ _ (difference_inside c.args.a.x c.args.b.y c.args.a.y c.args.b.x c.args.a.x_small c.args.b.y_small c.args.a.y_small c.args.b.x_small)
    (small_difference c.args.a.x c.args.b.y c.args.a.y c.args.b.x c.args.a.x_small c.args.b.y_small c.args.a.y_small c.args.b.x_small)

pub returns-clause-value : goal.returns-clause-value
returns-clause-value c =
    code_inside _ _ (difference_inside c.args.a.x c.args.b.y c.args.a.y c.args.b.x c.args.a.x_small c.args.b.y_small c.args.a.y_small c.args.b.x_small)
    (small_difference c.args.a.x c.args.b.y c.args.a.y c.args.b.x c.args.a.x_small c.args.b.y_small c.args.a.y_small c.args.b.x_small)

pub returns-clause-small : goal.returns-clause-small
returns-clause-small c =
    small_inside _ _ (difference_inside c.args.a.x c.args.b.y c.args.a.y c.args.b.x c.args.a.x_small c.args.b.y_small c.args.a.y_small c.args.b.x_small)
    (small_difference c.args.a.x c.args.b.y c.args.a.y c.args.b.x c.args.a.x_small c.args.b.y_small c.args.a.y_small c.args.b.x_small)
