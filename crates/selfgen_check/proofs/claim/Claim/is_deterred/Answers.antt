use Rattle.std.proofs.Common.{◌≡◌, ◌-◌, ◌∙◌, rules, refl, to_z, of_z, FitsSigned}
use Rattle.std.specs.Prelude.{pos, ◌*ℤ◌, slice_index}
use mir.Syntax.{w64}
use Rattle.std.proofs.lemmas.Int.{to_z-of_z}
use Rattle.game_model.specs.Game.{payoff_at, deviation_at}
use Rattle.game_model.specs.SelfGeneration.{part, entry_at, punishment, profile_of}
use Rattle.selfgen_check.specs.Claims.{set_of}
use Rattle.selfgen_check.specs.Parts.{reached_from}
use Rattle.selfgen_check.specs.Promises.{scale_of}
use Rattle.selfgen_check.proofs.Sides.{deterred_sides, share_along}
use Rattle.selfgen_check.proofs.claim.Claim.is_deterred.Goals as goal

pub returns : goal.returns
returns c = let f0 : FitsSigned w64 c.times.result = search rules in
    let f1 : FitsSigned w64 c.times-2.result = search rules in
    let f2 : FitsSigned w64 c.times-3.result = search rules in
    let f3 : FitsSigned w64 c.payoff-payoff.result = search rules in
    let f4 : FitsSigned w64 c.punishing_part-punishing.result = search rules in
    let f5 : FitsSigned w64 c.small_part-own.result = search rules in
    let q : c.discount_of-p.result.1 ≡ c.args.self.now.game.now.q = c.discount_of-p.ensures.denominator in
    let p : c.discount_of-p.result.0 ≡ slice_index c.args.self.now.game.now.discounts c.args.i = c.discount_of-p.ensures.numerator in
    let qp : c.discount_of-p.result.1 - c.discount_of-p.result.0 ≡ c.args.self.now.game.now.q - slice_index c.args.self.now.game.now.discounts c.args.i = rw (q, p) refl in
    let own : to_z w64 (of_z w64 c.small_part-own.result) ≡ part c.args.self.now.entry.now.point c.args.i = to_z-of_z w64 c.small_part-own.result f5 ∙ c.small_part-own.ensures.part in
    let units : c.payoff-payoff.result ≡ pos (scale_of c.args.self.now.game.now c.args.self.now.corr.now) *ℤ payoff_at c.args.self.now.game.now c.args.self.now.state (deviation_at c.args.self.now.game.now c.args.self.now.state (profile_of c.args.self.now.game.now c.args.self.now.state c.args.self.now.entry.now) c.args.i c.args.b) c.args.i =
    c.payoff-payoff.ensures.payoff ∙ rw (c.requires.claim.scale, c.deviation.ensures.deviation) refl in
    let punishing : to_z w64 (of_z w64 c.punishing_part-punishing.result) ≡ part (entry_at (set_of c.args.self.now) (reached_from c.args.self.now.game.now c.args.self.now.state c.args.self.now.entry.now c.args.i c.args.b) (punishment c.args.self.now.game.now c.args.self.now.state c.args.self.now.entry.now c.args.i c.args.b)).point c.args.i =
    to_z-of_z w64 c.punishing_part-punishing.result f4 ∙ c.punishing_part-punishing.ensures.part in
    let sides = deterred_sides c.args.self.now.game.now.q (slice_index c.args.self.now.game.now.discounts c.args.i) (scale_of c.args.self.now.game.now c.args.self.now.corr.now)
    (part c.args.self.now.entry.now.point c.args.i) (payoff_at c.args.self.now.game.now c.args.self.now.state (deviation_at c.args.self.now.game.now c.args.self.now.state (profile_of c.args.self.now.game.now c.args.self.now.state c.args.self.now.entry.now) c.args.i c.args.b) c.args.i)
    (part (entry_at (set_of c.args.self.now) (reached_from c.args.self.now.game.now c.args.self.now.state c.args.self.now.entry.now c.args.i c.args.b) (punishment c.args.self.now.game.now c.args.self.now.state c.args.self.now.entry.now c.args.i c.args.b)).point c.args.i)
    (to_z w64 (of_z w64 c.times.result)) (to_z w64 (of_z w64 c.times-2.result)) (to_z w64 (of_z w64 c.times-3.result))
    (to_z-of_z w64 c.times.result f0 ∙ (c.times.ensures.product ∙ share_along _ _ _ _ qp (to_z-of_z w64 c.payoff-payoff.result f3 ∙ units)))
    (to_z-of_z w64 c.times-2.result f1 ∙ (c.times-2.ensures.product ∙ share_along _ _ _ _ p punishing))
    (to_z-of_z w64 c.times-3.result f2 ∙ (c.times-3.ensures.product ∙ share_along _ _ _ _ q own)) in
    (λ t. sides.0 (c.is_at_most.ensures.0 t), λ h. c.is_at_most.ensures.1 (sides.1 h))
