use Rattle.exact_algebra.proofs.Order.{positive_at_least_zero}
use Rattle.hull_weights.proofs.Sizes.{is_above, is_below, not_above, not_below, weight_above, weight_below, at_most, apart_right, apart_left}
use Rattle.hull_weights.proofs.Cones.{wedge_left, wedge_right, wedge_keeps}
use Rattle.hull_weights.proofs.Balances.{wedge_balance}
use Rattle.hull_weights.proofs.cone.beside_wedge.Goals as goal

pub returns-then-from_left-gt0 : goal.returns-then-from_left-gt0
returns-then-from_left-gt0 c =
    let from_right = c.turn_between-from_right in
    let from_left = c.turn_between-from_left in
    wedge_left c.args.right c.args.left c.args.arrow c.requires.proper c.requires.right_earlier
    (is_above from_right.result _ from_right.ensures.value from_right.ensures.small c.if-from_right-gt0.true)
    (is_above from_left.result _ from_left.ensures.value from_left.ensures.small c.if-from_left-gt0.true)

pub returns-else-from_left-gt0 : goal.returns-else-from_left-gt0
returns-else-from_left-gt0 c =
    let from_right = c.turn_between-from_right in
    let from_left = c.turn_between-from_left in
    let right_above = is_above from_right.result _ from_right.ensures.value from_right.ensures.small c.if-from_right-gt0.true in
    let left_most = not_above from_left.result _ from_left.ensures.value from_left.ensures.small c.if-from_left-gt0.false in
    wedge_keeps c.args.right c.args.left c.args.arrow c.requires.proper c.requires.apart
    (positive_at_least_zero _ right_above) left_most (apart_right _ _ left_most right_above)

pub returns-then-from_right-lt0 : goal.returns-then-from_right-lt0
returns-then-from_right-lt0 c =
    let from_right = c.turn_between-from_right in
    let from_left = c.turn_between-from_left in
    wedge_right c.args.right c.args.left c.args.arrow c.requires.proper c.requires.left_earlier
    (is_below from_right.result _ from_right.ensures.value from_right.ensures.small c.if-from_right-lt0.true)
    (is_below from_left.result _ from_left.ensures.value from_left.ensures.small c.if-from_left-lt0.true)

pub returns-else-from_right-lt0 : goal.returns-else-from_right-lt0
returns-else-from_right-lt0 c =
    let from_right = c.turn_between-from_right in
    let from_left = c.turn_between-from_left in
    let right_least = not_below from_right.result _ from_right.ensures.value from_right.ensures.small c.if-from_right-lt0.false in
    let left_below = is_below from_left.result _ from_left.ensures.value from_left.ensures.small c.if-from_left-lt0.true in
    wedge_keeps c.args.right c.args.left c.args.arrow c.requires.proper c.requires.apart
    right_least (at_most _ left_below) (apart_left _ _ left_below right_least)

pub returns-else-from_left-lt0 : goal.returns-else-from_left-lt0
returns-else-from_left-lt0 c =
    let from_right = c.turn_between-from_right in
    let from_left = c.turn_between-from_left in
    let whole = c.turn_between in
    wedge_balance c.args.right c.args.left c.args.arrow c.unsigned_abs.result c.unsigned_abs-else-from_left-lt0.result c.unsigned_abs-else-from_left-lt0-2.result
    c.requires.right_earlier c.requires.left_earlier c.requires.apart c.requires.proper
    (weight_above _ from_left.result _ c.unsigned_abs.ensures.value from_left.ensures.value from_left.ensures.small
    (not_below from_left.result _ from_left.ensures.value from_left.ensures.small c.if-from_left-lt0.false))
    (weight_below _ from_right.result _ c.unsigned_abs-else-from_left-lt0.ensures.value from_right.ensures.value from_right.ensures.small
    (not_above from_right.result _ from_right.ensures.value from_right.ensures.small c.if-from_right-gt0.false))
    (weight_above _ whole.result _ c.unsigned_abs-else-from_left-lt0-2.ensures.value whole.ensures.value whole.ensures.small
    (positive_at_least_zero _ c.requires.proper))
