use Rattle.std.proofs.Common.{◌≡◌, ◌∙◌, rules, arith, to_z, of_z, FitsSigned}
use mir.Syntax.{w64}
use Rattle.std.proofs.lemmas.Int.{to_z-of_z}
use Rattle.game_model.specs.Game.{payoff_at}
use Rattle.inner_sets.proofs.Ranges.{state_range_first, state_range_more}
use Rattle.inner_sets.proofs.SmallParts.{some_profile}
use Rattle.inner_sets.proofs.lattice.range_in.Goals as goal

pub payoff-first-requires-clause-profile : goal.payoff-first-requires-clause-profile
payoff-first-requires-clause-profile c = some_profile c.args.game.now c.args.s c.players-players.ensures.is_game c.requires.state

pub loop-a-init : goal.loop-a-init
loop-a-init c =
    let f : FitsSigned w64 c.payoff-first.result = search rules in
    let e : to_z w64 (of_z w64 c.payoff-first.result) ≡ payoff_at c.args.game.now c.args.s 0 c.args.i = to_z-of_z w64 c.payoff-first.result f ∙ c.payoff-first.ensures in
    state_range_first c.args.game.now c.args.s c.args.i (to_z w64 (of_z w64 c.payoff-first.result)) (to_z w64 (of_z w64 c.payoff-first.result)) (some_profile c.args.game.now c.args.s c.players-players.ensures.is_game c.requires.state) e e

pub loop-a-preserved : goal.loop-a-preserved
loop-a-preserved c =
    let f : FitsSigned w64 c.payoff-payoff.result = search rules in
    let e : to_z w64 (of_z w64 c.payoff-payoff.result) ≡ payoff_at c.args.game.now c.args.s c.loop-a.a c.args.i = to_z-of_z w64 c.payoff-payoff.result f ∙ c.payoff-payoff.ensures in
    state_range_more c.args.game.now c.args.s c.loop-a.a c.args.i c.loop-a.range.0 c.loop-a.range.1 c.joined-range.result.0 c.joined-range.result.1 (to_z w64 (of_z w64 c.payoff-payoff.result)) (to_z w64 (of_z w64 c.payoff-payoff.result))
    c.loop-a.invariant (omega (arith, c.loop-a-test.true, c.profiles-a-end.ensures)) e e c.joined-range.ensures.low c.joined-range.ensures.high
