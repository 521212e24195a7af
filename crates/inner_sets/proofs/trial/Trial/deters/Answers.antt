use Rattle.std.proofs.Common.{◌≡◌, ◌∙◌, subst, sym, rules, to_z, of_z, get_or, FitsSigned}
use Rattle.std.specs.Prelude.{ℤ, pos, ◌*ℤ◌, ◌≤ℤ◌}
use mir.Syntax.{w64}
use Rattle.std.proofs.lemmas.Int.{to_z-of_z}
use Rattle.game_model.specs.SelfGeneration.{part}
use Rattle.inner_sets.proofs.Steps.{share_along}
use Rattle.inner_sets.proofs.trial.Trial.deters.Goals as goal

pub returns : goal.returns
returns c =
    let asked = c.requires.ask.enough c.args.point (c.requires.small c.args.i c.requires.player) in
    let small = c.requires.ask.small in
    let f1 : FitsSigned w64 (get_or c.args.asks c.args.i (pos 0)) = search rules in
    let f2 : FitsSigned w64 c.part_of.result = search rules in
    let e1 : to_z w64 (of_z w64 (get_or c.args.asks c.args.i (pos 0))) ≡ part c.args.asks c.args.i = to_z-of_z w64 _ f1 in
    let e2 : to_z w64 (of_z w64 c.part_of.result) ≡ part c.args.point c.args.i = to_z-of_z w64 c.part_of.result f2 ∙ c.part_of.ensures.part in
    let e3 : pos c.discount_of-p.result.1 *ℤ to_z w64 (of_z w64 c.part_of.result) ≡ pos c.args.self.now.game.now.q *ℤ part c.args.point c.args.i = share_along _ _ _ _ c.discount_of-p.ensures.denominator e2 in (
      λ yes. asked.0 (subst (λ (x : ℤ). x ≤ℤ (pos c.args.self.now.game.now.q *ℤ part c.args.point c.args.i)) e1 (subst (λ (y : ℤ). to_z w64 (of_z w64 (get_or c.args.asks c.args.i (pos 0))) ≤ℤ y) e3 (c.is_enough.ensures.0 yes))),
      λ h. c.is_enough.ensures.1 (subst (λ (x : ℤ). x ≤ℤ (pos c.discount_of-p.result.1 *ℤ to_z w64 (of_z w64 c.part_of.result))) (sym e1) (subst (λ (y : ℤ). part c.args.asks c.args.i ≤ℤ y) (sym e3) (asked.1 h))),
    )
