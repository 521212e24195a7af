-- a change of one strategy moves the number by that many steps
use Rattle.std.proofs.Common.{◌≤◌, arith}
use Rattle.std.proofs.Math.Nat.{mul-le-mul}
use Rattle.game_model.proofs.Lists.{profile_count_small, profile_count_take_small}
use Rattle.game_model.proofs.Profiles.{Moves, moves, moved}
use Rattle.game_model.proofs.game.replaced.Goals as goal

pub overflow_mul-result : goal.overflow_mul-result
overflow_mul-result c =
    let m : Moves c.args.sizes.now c.args.a c.args.i c.args.b = moves c.args.sizes.now c.args.a c.args.i c.args.b c.requires.positive c.requires.profile c.requires.player c.requires.strategy in
    omega (arith, (moved c.args.sizes.now c.args.a c.args.i c.args.b c.digit.result c.place_value-step.result m c.digit.ensures c.place_value-step.ensures).0)

pub overflow_sub-result : goal.overflow_sub-result
overflow_sub-result c =
    let m : Moves c.args.sizes.now c.args.a c.args.i c.args.b = moves c.args.sizes.now c.args.a c.args.i c.args.b c.requires.positive c.requires.profile c.requires.player c.requires.strategy in
    (moved c.args.sizes.now c.args.a c.args.i c.args.b c.digit.result c.place_value-step.result m c.digit.ensures c.place_value-step.ensures).0

pub overflow_mul-result-2 : goal.overflow_mul-result-2
overflow_mul-result-2 c =
    let step : c.place_value-step.result ≤ 4096 = omega (arith, c.place_value-step.ensures, profile_count_take_small c.args.i c.args.sizes.now c.requires.few c.requires.small) in
    let low : c.args.b ≤ 16 = omega (arith, c.requires.strategy, c.requires.small c.args.i c.requires.player) in
    omega (arith, mul-le-mul low step)

pub overflow_add-result : goal.overflow_add-result
overflow_add-result c =
    let m : Moves c.args.sizes.now c.args.a c.args.i c.args.b = moves c.args.sizes.now c.args.a c.args.i c.args.b c.requires.positive c.requires.profile c.requires.player c.requires.strategy in
    omega (arith, (moved c.args.sizes.now c.args.a c.args.i c.args.b c.digit.result c.place_value-step.result m c.digit.ensures c.place_value-step.ensures).1, m.below, profile_count_small c.args.sizes.now c.requires.few c.requires.small)

pub returns-clause-number : goal.returns-clause-number
returns-clause-number c =
    let m : Moves c.args.sizes.now c.args.a c.args.i c.args.b = moves c.args.sizes.now c.args.a c.args.i c.args.b c.requires.positive c.requires.profile c.requires.player c.requires.strategy in
    (moved c.args.sizes.now c.args.a c.args.i c.args.b c.digit.result c.place_value-step.result m c.digit.ensures c.place_value-step.ensures).1

pub returns-clause-in_range : goal.returns-clause-in_range
returns-clause-in_range c =
    let m : Moves c.args.sizes.now c.args.a c.args.i c.args.b = moves c.args.sizes.now c.args.a c.args.i c.args.b c.requires.positive c.requires.profile c.requires.player c.requires.strategy in
    rw (moved c.args.sizes.now c.args.a c.args.i c.args.b c.digit.result c.place_value-step.result m c.digit.ensures c.place_value-step.ensures).1 m.below

pub returns-clause-plays : goal.returns-clause-plays
returns-clause-plays c =
    let m : Moves c.args.sizes.now c.args.a c.args.i c.args.b = moves c.args.sizes.now c.args.a c.args.i c.args.b c.requires.positive c.requires.profile c.requires.player c.requires.strategy in
    rw (moved c.args.sizes.now c.args.a c.args.i c.args.b c.digit.result c.place_value-step.result m c.digit.ensures c.place_value-step.ensures).1 m.plays

pub returns-clause-others : goal.returns-clause-others
returns-clause-others c =
    let m : Moves c.args.sizes.now c.args.a c.args.i c.args.b = moves c.args.sizes.now c.args.a c.args.i c.args.b c.requires.positive c.requires.profile c.requires.player c.requires.strategy in
    rw (moved c.args.sizes.now c.args.a c.args.i c.args.b c.digit.result c.place_value-step.result m c.digit.ensures c.place_value-step.ensures).1 m.others
