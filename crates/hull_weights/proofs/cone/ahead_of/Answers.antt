use Rattle.hull_weights.proofs.Sizes.{sum_inside, small_sum, fits_inside, code_inside, small_inside}
use Rattle.hull_weights.proofs.cone.ahead_of.Goals as goal

pub overflow_add-result : goal.overflow_add-result
overflow_add-result c =
    fits_inside _ _ (sum_inside c.args.a.x c.args.b.x c.args.a.y c.args.b.y c.args.a.x_small c.args.b.x_small c.args.a.y_small c.args.b.y_small)
    (small_sum c.args.a.x c.args.b.x c.args.a.y c.args.b.y c.args.a.x_small c.args.b.x_small c.args.a.y_small c.args.b.y_small)

pub returns-clause-value : goal.returns-clause-value
returns-clause-value c =
    code_inside _ _ (sum_inside c.args.a.x c.args.b.x c.args.a.y c.args.b.y c.args.a.x_small c.args.b.x_small c.args.a.y_small c.args.b.y_small)
    (small_sum c.args.a.x c.args.b.x c.args.a.y c.args.b.y c.args.a.x_small c.args.b.x_small c.args.a.y_small c.args.b.y_small)

pub returns-clause-small : goal.returns-clause-small
returns-clause-small c =
    small_inside _ _ (sum_inside c.args.a.x c.args.b.x c.args.a.y c.args.b.y c.args.a.x_small c.args.b.x_small c.args.a.y_small c.args.b.y_small)
    (small_sum c.args.a.x c.args.b.x c.args.a.y c.args.b.y c.args.a.x_small c.args.b.x_small c.args.a.y_small c.args.b.y_small)
