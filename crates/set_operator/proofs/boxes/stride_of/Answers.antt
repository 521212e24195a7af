-- few players have few profiles
use Rattle.std.proofs.Common.{◌*◌, ◌<◌, ◌≤◌, length, get_or, take, arith, ap, ◌∙◌, sym}
use Rattle.std.proofs.Math.Nat.{mul-le-mul}
use Rattle.std.proofs.lemmas.List.{take_more}
use Rattle.game_model.specs.Game.{IsState, counts, profile_count}
use Rattle.game_model.proofs.Lists.{profile_count_take_small}
use Rattle.game_model.proofs.Profiles.{profile_count-push}
use Rattle.set_operator.proofs.boxes.stride_of.Goals as goal

pub overflow_mul-stride : goal.overflow_mul-stride
overflow_mul-stride c =
    let st : IsState c.args.game.now c.args.s = c.requires.game.each_state c.args.s c.requires.state in
    let xs = counts c.args.game.now c.args.s in
    let inside : c.loop-j.j < c.args.game.now.players = omega (arith, c.requires.player, c.loop-j-test.true) in
    let so_far : profile_count (take c.loop-j.j xs) ≤ 4096 =
    profile_count_take_small c.loop-j.j xs (omega (arith, st.one_each, c.requires.game.three_players)) (λ j below. st.few_strategies j (omega (arith, st.one_each))) in
    let step : c.loop-j.stride ≤ 4096 = omega (arith, c.loop-j.invariant, so_far) in
    let size : c.strategies-stride.result ≤ 16 = omega (arith, c.strategies-stride.ensures, st.few_strategies c.loop-j.j inside) in
    omega (arith, mul-le-mul step size)

pub loop-j-preserved : goal.loop-j-preserved
loop-j-preserved c =
    let st : IsState c.args.game.now c.args.s = c.requires.game.each_state c.args.s c.requires.state in
    let xs = counts c.args.game.now c.args.s in
    let below : c.loop-j.j < length xs = omega (arith, c.requires.player, c.loop-j-test.true, st.one_each) in
    ap (λ n. n * c.strategies-stride.result) c.loop-j.invariant ∙ ap (λ n. profile_count (take c.loop-j.j xs) * n) c.strategies-stride.ensures
    ∙ sym (ap profile_count (take_more xs c.loop-j.j 0 below) ∙ profile_count-push (take c.loop-j.j xs) (get_or xs c.loop-j.j 0))
