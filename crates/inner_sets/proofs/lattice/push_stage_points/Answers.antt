use Rattle.std.proofs.Common.{◌≡◌, ℕ, ◌≤◌, ◌^◌, ap, subst, arith, ◌∙◌, rules, to_z, of_z, FitsSigned}
use Rattle.std.specs.Prelude.{ℤ, pos, ◌*ℤ◌, unsigned_abs}
use mir.Syntax.{w64}
use Rattle.std.proofs.lemmas.Int.{to_z-of_z}
use Rattle.game_model.specs.Game.{counts, payoff_at, profile_count}
use Rattle.inner_sets.specs.Gains.{Adds, IsStagePointBelow}
use Rattle.inner_sets.proofs.SmallParts.{payoff_small}
use Rattle.inner_sets.proofs.Gains.{stage_none, stage_more}
use Rattle.inner_sets.proofs.lattice.push_stage_points.Goals as goal

pub loop-a-init : goal.loop-a-init
loop-a-init c = stage_none c.args.game.now c.args.n c.args.s c.args.points.now.items

pub loop-a-preserved : goal.loop-a-preserved
loop-a-preserved c =
    let f1 : FitsSigned w64 c.times-first.result = search rules in
    let f2 : FitsSigned w64 c.times-second.result = search rules in
    let g1 : FitsSigned w64 c.payoff.result = search rules in
    let g2 : FitsSigned w64 c.payoff-in-loop-a.result = search rules in
    let e1 : to_z w64 (of_z w64 c.times-first.result) ≡ pos c.args.n *ℤ payoff_at c.args.game.now c.args.s c.loop-a.a 0 = to_z-of_z w64 c.times-first.result f1 ∙ (c.times-first.ensures.product ∙ ap (λ (z : ℤ). pos c.args.n *ℤ z) (to_z-of_z w64 c.payoff.result g1 ∙ c.payoff.ensures)) in
    let e2 : to_z w64 (of_z w64 c.times-second.result) ≡ pos c.args.n *ℤ payoff_at c.args.game.now c.args.s c.loop-a.a 1 = to_z-of_z w64 c.times-second.result f2 ∙ (c.times-second.ensures.product ∙ ap (λ (z : ℤ). pos c.args.n *ℤ z) (to_z-of_z w64 c.payoff-in-loop-a.result g2 ∙ c.payoff-in-loop-a.ensures)) in
    stage_more c.args.game.now c.args.n c.args.s c.loop-a.a c.args.points.now.items c.loop-a.points.items c.push.new.self.items (to_z w64 (of_z w64 c.times-first.result)) (to_z w64 (of_z w64 c.times-second.result)) c.loop-a.invariant (c.in_ok-push.ensures {u = tt}).items e1 e2

pub times-second-requires-clause-units : goal.times-second-requires-clause-units
times-second-requires-clause-units c =
    let g2 : FitsSigned w64 c.payoff-in-loop-a.result = search rules in
    let small : unsigned_abs (payoff_at c.args.game.now c.args.s c.loop-a.a 1) ≤ 2 ^ 26 = payoff_small c.args.game.now c.args.s c.loop-a.a 1 c.players-players.ensures.is_game c.requires.state (omega (arith, c.loop-a-test.true, c.profiles-a-end.ensures)) (omega (arith, c.requires.players)) in
    let same : unsigned_abs (to_z w64 (of_z w64 c.payoff-in-loop-a.result)) ≡ unsigned_abs (payoff_at c.args.game.now c.args.s c.loop-a.a 1) = ap unsigned_abs (to_z-of_z w64 c.payoff-in-loop-a.result g2 ∙ c.payoff-in-loop-a.ensures) in
    omega (arith, small, same)

pub returns : goal.returns
returns c =
    let end : c.loop-a.a ≡ profile_count (counts c.args.game.now c.args.s) = omega (arith, c.loop-a-test.false, c.loop-a.auto.a-end, c.profiles-a-end.ensures) in
    subst (λ (m : ℕ). Adds m (IsStagePointBelow c.args.game.now c.args.n c.args.s m) c.args.points.now.items c.loop-a.points.items) end c.loop-a.invariant
