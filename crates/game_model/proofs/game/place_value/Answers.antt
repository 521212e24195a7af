-- few players have few profiles
use Rattle.std.proofs.Common.{ℕ, ◌*◌, ◌<◌, ◌≤◌, length, get_or, take, arith, ap, ◌∙◌, sym}
use Rattle.std.proofs.Math.Nat.{mul-le-mul}
use Rattle.std.proofs.lemmas.List.{length-take, get_or-take, take_more}
use Rattle.game_model.specs.Game.{profile_count}
use Rattle.game_model.proofs.Lists.{profile_count_take_small}
use Rattle.game_model.proofs.Profiles.{profile_count-push}
use Rattle.game_model.proofs.game.place_value.Goals as goal

pub overflow_mul-step : goal.overflow_mul-step
overflow_mul-step c =
    let k : ℕ = c.loop-size.size-index in
    let i : ℕ = c.args.i in
    let lengths = length-take i c.args.sizes.now in
    let inside : k < i = omega arith in
    let below : k < length c.args.sizes.now = omega arith in
    let item : get_or (take i c.args.sizes.now) k 0 ≤ 16 = rw (get_or-take i c.args.sizes.now k 0 inside) (c.requires.small k below) in
    let so_far : profile_count (take k (take i c.args.sizes.now)) ≤ 4096 =
    profile_count_take_small k (take i c.args.sizes.now) (omega arith) (λ j j_below. rw (get_or-take i c.args.sizes.now j 0 (omega arith)) (c.requires.small j (omega arith))) in
    let step : c.loop-size.step ≤ 4096 = omega (arith, c.loop-size.invariant, so_far) in
    omega (arith, mul-le-mul step item)

pub loop-size-preserved : goal.loop-size-preserved
loop-size-preserved c =
    let k : ℕ = c.loop-size.size-index in
    let xs = take c.args.i c.args.sizes.now in
    let below : k < length xs = omega arith in
    ap (λ n. n * get_or xs k 0) c.loop-size.invariant ∙ sym (ap profile_count (take_more xs k 0 below) ∙ profile_count-push (take k xs) (get_or xs k 0))
