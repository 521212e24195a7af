use Rattle.std.proofs.Common.{◌≡◌, ◌-◌, ◌∙◌}
use Rattle.game_model.specs.Game.{payoff_at}
use Rattle.level_table.specs.Problem.{discount_at, fineness}
use Rattle.level_table.proofs.Sizes.{payoff_small}
use Rattle.set_operator.proofs.Openings.{payoff_scaled}
use Rattle.set_operator.proofs.Scales.{scaled_fits, weighed_fits, stage_is, stage_code_small, stage_by_factors}
use Rattle.set_operator.proofs.boxes.stage_of.Goals as goal

pub overflow_mul-result-2 : goal.overflow_mul-result-2
overflow_mul-result-2 c =
    let p = c.args.p.now in
    let u : c.payoff.result ≡ payoff_at p.game c.args.state c.args.profile c.args.i = cc in
    scaled_fits c.weight_of.result c.base_of.result c.fineness_of.result c.payoff.result (record {
      k_small = c.weight_of.ensures.small;
      b_small = rw c.base_of.ensures.value c.base_of.ensures.small;
      f_small = rw c.fineness_of.ensures.value c.fineness_of.ensures.small;
      x_small = rw u (payoff_small p.game c.args.state c.args.profile c.args.i c.game.ensures.is_problem.game c.requires.state c.requires.profile c.requires.player);
      product_small = rw (c.base_of.ensures.value, c.fineness_of.ensures.value, u) (payoff_scaled p c.args.state c.args.profile c.args.i c.game.ensures.is_problem c.requires.opening c.requires.state c.requires.profile c.requires.player);
    })

pub overflow_mul-result-3 : goal.overflow_mul-result-3
overflow_mul-result-3 c =
    let p = c.args.p.now in
    let u : c.payoff.result ≡ payoff_at p.game c.args.state c.args.profile c.args.i = cc in
    weighed_fits c.weight_of.result c.base_of.result c.fineness_of.result c.payoff.result (record {
      k_small = c.weight_of.ensures.small;
      b_small = rw c.base_of.ensures.value c.base_of.ensures.small;
      f_small = rw c.fineness_of.ensures.value c.fineness_of.ensures.small;
      x_small = rw u (payoff_small p.game c.args.state c.args.profile c.args.i c.game.ensures.is_problem.game c.requires.state c.requires.profile c.requires.player);
      product_small = rw (c.base_of.ensures.value, c.fineness_of.ensures.value, u) (payoff_scaled p c.args.state c.args.profile c.args.i c.game.ensures.is_problem c.requires.opening c.requires.state c.requires.profile c.requires.player);
    })

pub returns-clause-stage : goal.returns-clause-stage
returns-clause-stage c =
    let p = c.args.p.now in
    let u : c.payoff.result ≡ payoff_at p.game c.args.state c.args.profile c.args.i = cc in
    stage_is c.weight_of.result c.base_of.result c.fineness_of.result c.payoff.result (record {
      k_small = c.weight_of.ensures.small;
      b_small = rw c.base_of.ensures.value c.base_of.ensures.small;
      f_small = rw c.fineness_of.ensures.value c.fineness_of.ensures.small;
      x_small = rw u (payoff_small p.game c.args.state c.args.profile c.args.i c.game.ensures.is_problem.game c.requires.state c.requires.profile c.requires.player);
      product_small = rw (c.base_of.ensures.value, c.fineness_of.ensures.value, u) (payoff_scaled p c.args.state c.args.profile c.args.i c.game.ensures.is_problem c.requires.opening c.requires.state c.requires.profile c.requires.player);
    })
    ∙ rw (c.weight_of.ensures.value, c.base_of.ensures.value, c.fineness_of.ensures.value, u) (stage_by_factors (p.game.q - discount_at p c.args.i) p.game.base (fineness p) (payoff_at p.game c.args.state c.args.profile c.args.i))

pub returns-clause-small : goal.returns-clause-small
returns-clause-small c =
    let p = c.args.p.now in
    let u : c.payoff.result ≡ payoff_at p.game c.args.state c.args.profile c.args.i = cc in
    stage_code_small c.weight_of.result c.base_of.result c.fineness_of.result c.payoff.result (record {
      k_small = c.weight_of.ensures.small;
      b_small = rw c.base_of.ensures.value c.base_of.ensures.small;
      f_small = rw c.fineness_of.ensures.value c.fineness_of.ensures.small;
      x_small = rw u (payoff_small p.game c.args.state c.args.profile c.args.i c.game.ensures.is_problem.game c.requires.state c.requires.profile c.requires.player);
      product_small = rw (c.base_of.ensures.value, c.fineness_of.ensures.value, u) (payoff_scaled p c.args.state c.args.profile c.args.i c.game.ensures.is_problem c.requires.opening c.requires.state c.requires.profile c.requires.player);
    })
