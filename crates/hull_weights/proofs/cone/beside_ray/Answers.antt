use Rattle.exact_algebra.proofs.Order.{positive_at_least_zero}
use Rattle.hull_weights.proofs.Sizes.{is_above, is_below, not_above, not_below, weight_above, weight_below, straight}
use Rattle.hull_weights.proofs.Cones.{ray_left, ray_right}
use Rattle.hull_weights.proofs.Balances.{ray_balance}
use Rattle.hull_weights.proofs.cone.beside_ray.Goals as goal

pub returns-then-side-gt0 : goal.returns-then-side-gt0
returns-then-side-gt0 c =
    let side = c.turn_between-side in
    ray_left c.args.only c.args.arrow c.requires.proper c.requires.earlier
    (is_above side.result _ side.ensures.value side.ensures.small c.if-side-gt0.true)

pub returns-then-side-lt0 : goal.returns-then-side-lt0
returns-then-side-lt0 c =
    let side = c.turn_between-side in
    ray_right c.args.only c.args.arrow c.requires.proper c.requires.earlier
    (is_below side.result _ side.ensures.value side.ensures.small c.if-side-lt0.true)

pub returns : goal.returns
returns c =
    let side = c.turn_between-side in
    let front = c.ahead_of-front in
    let length = c.ahead_of in
    ray_balance c.args.only c.args.arrow c.unsigned_abs.result c.unsigned_abs-2.result c.requires.earlier c.requires.proper
    (straight _
    (not_above side.result _ side.ensures.value side.ensures.small c.if-side-gt0.false)
    (not_below side.result _ side.ensures.value side.ensures.small c.if-side-lt0.false))
    (weight_below _ front.result _ c.unsigned_abs.ensures.value front.ensures.value front.ensures.small
    (not_above front.result _ front.ensures.value front.ensures.small c.if-front-gt0.false))
    (weight_above _ length.result _ c.unsigned_abs-2.ensures.value length.ensures.value length.ensures.small
    (positive_at_least_zero _ c.requires.proper))
