use Rattle.std.proofs.Common.{◌≡◌, get_or, length, ◌<◌, arith, refl}
use Rattle.std.proofs.lemmas.Grind.{common_steps}
use Rattle.game_model.specs.Game.{counts}
use Rattle.selfgen_check.proofs.Profiles.{IsSmallStep, small_step, number_step, count_step, one_each}
use Rattle.selfgen_check.proofs.sums.number_of.Goals as goal

pub overflow_mul-number : goal.overflow_mul-number
overflow_mul-number c = let r : IsSmallStep (counts c.args.game.now c.args.s) c.args.profile.now c.loop-i.i c.loop-i.number c.loop-i.step =
    small_step c.args.game.now c.args.s c.args.profile.now c.loop-i.i c.loop-i.number c.loop-i.step c.players-i-end.ensures.is_game c.requires.state c.requires.profile (omega arith) c.loop-i.invariant.number c.loop-i.invariant.step in
    let e : c.get.result.now ≡ get_or c.args.profile.now c.loop-i.i 0 = grind (arith, common_steps) in
    rw e (omega (arith, r.moved))

pub overflow_add-number : goal.overflow_add-number
overflow_add-number c = let r : IsSmallStep (counts c.args.game.now c.args.s) c.args.profile.now c.loop-i.i c.loop-i.number c.loop-i.step =
    small_step c.args.game.now c.args.s c.args.profile.now c.loop-i.i c.loop-i.number c.loop-i.step c.players-i-end.ensures.is_game c.requires.state c.requires.profile (omega arith) c.loop-i.invariant.number c.loop-i.invariant.step in
    let e : c.get.result.now ≡ get_or c.args.profile.now c.loop-i.i 0 = grind (arith, common_steps) in
    rw e (omega (arith, r.reached))

pub overflow_mul-step : goal.overflow_mul-step
overflow_mul-step c = let r : IsSmallStep (counts c.args.game.now c.args.s) c.args.profile.now c.loop-i.i c.loop-i.number c.loop-i.step =
    small_step c.args.game.now c.args.s c.args.profile.now c.loop-i.i c.loop-i.number c.loop-i.step c.players-i-end.ensures.is_game c.requires.state c.requires.profile (omega arith) c.loop-i.invariant.number c.loop-i.invariant.step in
    rw c.strategies-step.ensures (omega (arith, r.next))

pub loop-i-preserved : goal.loop-i-preserved
loop-i-preserved c = let e : c.get.result.now ≡ get_or c.args.profile.now c.loop-i.i 0 = grind (arith, common_steps) in
    let n : length (counts c.args.game.now c.args.s) ≡ c.args.game.now.players = one_each c.args.game.now c.args.s c.players-i-end.ensures.is_game c.requires.state in
    let h : c.loop-i.i < length (counts c.args.game.now c.args.s) = omega arith in
    let k : c.loop-i.i < length c.args.profile.now = omega (arith, c.requires.profile.0) in
    rw (e, c.strategies-step.ensures) (record {
      number = number_step (counts c.args.game.now c.args.s) c.args.profile.now c.loop-i.i c.loop-i.number c.loop-i.step h k c.loop-i.invariant.number;
      step = rw (count_step (counts c.args.game.now c.args.s) c.loop-i.i h, ← c.loop-i.invariant.step) refl;
    })
