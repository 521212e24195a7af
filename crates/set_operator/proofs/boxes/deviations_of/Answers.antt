use Rattle.std.proofs.Common.{◌≡◌, ◌^◌, ◌<◌, ◌≤◌, ◌∙◌, arith, lit<, refl, ap, subst, take}
use Rattle.std.specs.Prelude.{slice_index}
use Rattle.std.specs.Int.RustNames.{unsigned_abs}
use Rattle.game_model.specs.Game.{counts, profile_count, payoff_at, strategy_at}
use Rattle.level_table.proofs.Sizes.{payoff_small}
use Rattle.set_operator.proofs.Scales.{kept}
use Rattle.set_operator.proofs.Strides.{steps_of}
use Rattle.set_operator.proofs.boxes.deviations_of.Goals as goal

pub overflow_mul-result : goal.overflow_mul-result
overflow_mul-result c =
    let own : c.strategy_of-own.result ≡ strategy_at c.args.p.now.game c.args.state c.args.profile c.args.i = cc in
    let stride = c.stride_of-stride.ensures ∙ ap (λ g. profile_count (take c.args.i (counts g c.args.state))) c.game-game.ensures.game in
    let h = steps_of c.args.p.now.game c.args.state c.args.profile c.args.i c.strategy_of-own.result c.strategy_of-own.result c.stride_of-stride.result c.game-game.ensures.is_problem.game c.requires.state c.requires.profile c.requires.player
    (subst (λ g. c.strategy_of-own.result < slice_index (counts g c.args.state) c.args.i) c.game-game.ensures.game c.strategy_of-own.ensures.in_range) own stride in
    omega (arith, h.0, c.ranges.profile)

pub overflow_sub-result : goal.overflow_sub-result
overflow_sub-result c =
    let own : c.strategy_of-own.result ≡ strategy_at c.args.p.now.game c.args.state c.args.profile c.args.i = cc in
    let stride = c.stride_of-stride.ensures ∙ ap (λ g. profile_count (take c.args.i (counts g c.args.state))) c.game-game.ensures.game in
    let h = steps_of c.args.p.now.game c.args.state c.args.profile c.args.i c.strategy_of-own.result c.strategy_of-own.result c.stride_of-stride.result c.game-game.ensures.is_problem.game c.requires.state c.requires.profile c.requires.player
    (subst (λ g. c.strategy_of-own.result < slice_index (counts g c.args.state) c.args.i) c.game-game.ensures.game c.strategy_of-own.ensures.in_range) own stride in
    h.0

pub returns : goal.returns
returns c =
    let p = c.args.p.now in
    let own : c.strategy_of-own.result ≡ strategy_at p.game c.args.state c.args.profile c.args.i = cc in
    let stride = c.stride_of-stride.ensures ∙ ap (λ g. profile_count (take c.args.i (counts g c.args.state))) c.game-game.ensures.game in
    let u : c.payoff.result ≡ payoff_at p.game c.args.state c.args.profile c.args.i = cc in
    let small : unsigned_abs c.payoff.result ≤ 2 ^ 26 = rw u (payoff_small p.game c.args.state c.args.profile c.args.i c.game-game.ensures.is_problem.game c.requires.state c.requires.profile c.requires.player) in
    let unit_small : unsigned_abs c.unit_of.result ≤ 2 ^ 60 = rw c.unit_of.ensures.value c.unit_of.ensures.small in
    record {
      state = refl;
      player = refl;
      own = own;
      steps = λ b below. (steps_of p.game c.args.state c.args.profile c.args.i b c.strategy_of-own.result c.stride_of-stride.result c.game-game.ensures.is_problem.game c.requires.state c.requires.profile c.requires.player below own stride).1;
      payoff = kept c.payoff.result (2 ^ 26) small (lit< tt) ∙ u;
      weight = kept c.weight_of.result (2 ^ 10) c.weight_of.ensures.small (lit< tt) ∙ c.weight_of.ensures.value;
      unit = kept c.unit_of.result (2 ^ 60) unit_small (lit< tt) ∙ c.unit_of.ensures.value;
    }
