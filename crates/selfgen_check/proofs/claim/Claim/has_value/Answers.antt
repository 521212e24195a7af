use Rattle.std.proofs.Common.{◌≡◌, ◌-◌, ◌∙◌, arith, rules, refl, to_z, of_z, FitsSigned}
use Rattle.std.specs.Prelude.{pos, ◌*ℤ◌, slice_index}
use mir.Syntax.{w64, w128}
use Rattle.std.proofs.lemmas.Int.{to_z-of_z}
use Rattle.game_model.specs.Game.{payoff_at}
use Rattle.game_model.specs.SelfGeneration.{part, total_weight, weighted_part, entries_of, profile_of}
use Rattle.selfgen_check.specs.Claims.{set_of}
use Rattle.selfgen_check.specs.Parts.{next_of}
use Rattle.selfgen_check.specs.Promises.{scale_of}
use Rattle.selfgen_check.proofs.Profiles.{number_known, next_known}
use Rattle.selfgen_check.proofs.Sides.{value_sides, product_along, share_along}
use Rattle.selfgen_check.proofs.claim.Claim.has_value.Goals as goal

pub payoff-requires-clause-profile : goal.payoff-requires-clause-profile
payoff-requires-clause-profile c = let k = number_known c.args.self.now.game.now c.args.self.now.state c.args.self.now.entry.now c.requires.claim.strategies in omega (arith, k, c.requires.claim.number)

pub weighted_sum-promised-requires-clause-small : goal.weighted_sum-promised-requires-clause-small
weighted_sum-promised-requires-clause-small c = rw c.next_entries.ensures (λ k h. c.requires.claim.limits.small_entries _ k (next_known c.args.self.now.game.now c.args.self.now.state c.args.self.now.entry.now c.requires.claim.game c.requires.claim.state c.requires.claim.strategies) h)

pub overflow_sub-q : goal.overflow_sub-q
overflow_sub-q c = omega (arith, c.requires.claim.game.discounts_below c.args.i c.requires.player, c.discount_of-p.ensures.numerator, c.discount_of-p.ensures.denominator)

pub share-requires-clause-count : goal.share-requires-clause-count
share-requires-clause-count c = omega (arith, c.requires.claim.game.discounts_below c.args.i c.requires.player, c.requires.claim.game.q_small, c.discount_of-p.ensures.numerator, c.discount_of-p.ensures.denominator)

pub returns : goal.returns
returns c = let f0 : FitsSigned w128 c.weighed.result = search rules in
    let f1 : FitsSigned w128 c.weighed-2.result = search rules in
    let f2 : FitsSigned w128 c.share.result = search rules in
    let f3 : FitsSigned w128 c.from-own.result = search rules in
    let f4 : FitsSigned w128 c.from-payoff.result = search rules in
    let f5 : FitsSigned w64 c.small_part.result = search rules in
    let f6 : FitsSigned w64 c.payoff.result = search rules in
    let f7 : FitsSigned w128 c.weighted_sum-promised.result = search rules in
    let q : c.discount_of-p.result.1 ≡ c.args.self.now.game.now.q = c.discount_of-p.ensures.denominator in
    let p : c.discount_of-p.result.0 ≡ slice_index c.args.self.now.game.now.discounts c.args.i = c.discount_of-p.ensures.numerator in
    let qp : c.discount_of-p.result.1 - c.discount_of-p.result.0 ≡ c.args.self.now.game.now.q - slice_index c.args.self.now.game.now.discounts c.args.i = rw (q, p) refl in
    let weights : to_z w128 (of_z w128 c.args.weights) ≡ pos (total_weight c.args.self.now.entry.now.lottery) = to_z-of_z w128 c.args.weights c.ranges.weights ∙ c.requires.weights in
    let own : to_z w128 (of_z w128 c.from-own.result) ≡ part c.args.self.now.entry.now.point c.args.i =
    to_z-of_z w128 c.from-own.result f3 ∙ (c.from-own.ensures ∙ (to_z-of_z w64 c.small_part.result f5 ∙ c.small_part.ensures.part)) in
    let units : c.payoff.result ≡ pos (scale_of c.args.self.now.game.now c.args.self.now.corr.now) *ℤ payoff_at c.args.self.now.game.now c.args.self.now.state (profile_of c.args.self.now.game.now c.args.self.now.state c.args.self.now.entry.now) c.args.i =
    c.payoff.ensures.payoff ∙ rw (c.requires.claim.scale, c.requires.claim.number) refl in
    let payoff : to_z w128 (of_z w128 c.from-payoff.result) ≡ pos (scale_of c.args.self.now.game.now c.args.self.now.corr.now) *ℤ payoff_at c.args.self.now.game.now c.args.self.now.state (profile_of c.args.self.now.game.now c.args.self.now.state c.args.self.now.entry.now) c.args.i =
    to_z-of_z w128 c.from-payoff.result f4 ∙ (c.from-payoff.ensures ∙ (to_z-of_z w64 c.payoff.result f6 ∙ units)) in
    let promised : to_z w128 (of_z w128 c.weighted_sum-promised.result) ≡ weighted_part (entries_of (set_of c.args.self.now) (next_of c.args.self.now.game.now c.args.self.now.state c.args.self.now.entry.now)) c.args.i c.args.self.now.entry.now.lottery =
    to_z-of_z w128 c.weighted_sum-promised.result f7 ∙ (c.weighted_sum-promised.ensures.sum ∙ rw (c.next_entries.ensures, c.lottery.ensures) refl) in
    let sides = value_sides c.args.self.now.game.now.q (slice_index c.args.self.now.game.now.discounts c.args.i) (total_weight c.args.self.now.entry.now.lottery) (scale_of c.args.self.now.game.now c.args.self.now.corr.now)
    (part c.args.self.now.entry.now.point c.args.i) (payoff_at c.args.self.now.game.now c.args.self.now.state (profile_of c.args.self.now.game.now c.args.self.now.state c.args.self.now.entry.now) c.args.i) (weighted_part (entries_of (set_of c.args.self.now) (next_of c.args.self.now.game.now c.args.self.now.state c.args.self.now.entry.now)) c.args.i c.args.self.now.entry.now.lottery)
    (to_z w128 (of_z w128 c.weighed.result)) (to_z w128 (of_z w128 c.weighed-2.result)) (to_z w128 (of_z w128 c.share.result))
    (to_z-of_z w128 c.weighed.result f0 ∙ (c.weighed.ensures.product ∙ product_along _ _ _ _ _ _ q weights own))
    (to_z-of_z w128 c.weighed-2.result f1 ∙ (c.weighed-2.ensures.product ∙ product_along _ _ _ _ _ _ qp weights payoff))
    (to_z-of_z w128 c.share.result f2 ∙ (c.share.ensures.product ∙ share_along _ _ _ _ p promised)) in
    (λ t. sides.0 (c.is_sum.ensures.0 t), λ h. c.is_sum.ensures.1 (sides.1 h))
