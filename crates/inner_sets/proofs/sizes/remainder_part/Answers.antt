use Rattle.std.proofs.Common.{◌≡◌, ap, ◌∙◌, rules, to_z, of_z, FitsSigned}
use Rattle.std.specs.Prelude.{ℤ, pos, ◌-ℤ◌, ◌*ℤ◌}
use mir.Syntax.{w64, w128}
use Rattle.std.proofs.lemmas.Int.{to_z-of_z}
use Rattle.inner_sets.specs.Choice.{payoff_share}
use Rattle.inner_sets.proofs.Steps.{share_along}
use Rattle.inner_sets.proofs.sizes.remainder_part.Goals as goal

pub returns : goal.returns
returns c =
    let f1 : FitsSigned w64 c.times.result = search rules in
    let f2 : FitsSigned w64 c.payoff_share.result = search rules in
    let p : to_z w64 (of_z w64 c.args.part) ≡ c.args.part = to_z-of_z w64 c.args.part c.ranges.part in
    let e1 : to_z w64 (of_z w64 c.times.result) ≡ pos c.args.game.now.q *ℤ c.args.part = to_z-of_z w64 c.times.result f1 ∙ (c.times.ensures.product ∙ share_along _ _ _ _ c.discount_of-p.ensures.denominator p) in
    let e2 : to_z w64 (of_z w64 c.payoff_share.result) ≡ payoff_share c.args.game.now c.args.n c.args.s c.args.a c.args.i = to_z-of_z w64 c.payoff_share.result f2 ∙ c.payoff_share.ensures.share in
    let f3 : FitsSigned w128 c.difference.result = search rules in
    to_z-of_z w128 c.difference.result f3 ∙ (c.difference.ensures ∙ (ap (λ (z : ℤ). z -ℤ to_z w64 (of_z w64 c.payoff_share.result)) e1 ∙ ap (λ (z : ℤ). pos c.args.game.now.q *ℤ c.args.part -ℤ z) e2))
