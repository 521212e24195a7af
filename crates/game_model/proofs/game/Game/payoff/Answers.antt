-- a state has up to 4096 profiles
use Rattle.std.proofs.Common.{arith}
use Rattle.game_model.proofs.Lists.{few_profiles, payoff_place}
use Rattle.game_model.proofs.game.Game.payoff.Goals as goal

pub overflow_mul-a : goal.overflow_mul-a
overflow_mul-a c =
    let known = rw (← c.self.view_is) at c.requires.state in
    let profile = rw (← c.self.view_is) at c.requires.profile in
    let player = rw (← c.self.view_is) at c.requires.player in
    omega (arith, payoff_place _ _ c.args.a c.args.i profile player c.self.invariant.three_players (few_profiles _ c.self.invariant c.args.s known))

pub overflow_add-a : goal.overflow_add-a
overflow_add-a c =
    let known = rw (← c.self.view_is) at c.requires.state in
    let profile = rw (← c.self.view_is) at c.requires.profile in
    let player = rw (← c.self.view_is) at c.requires.player in
    omega (arith, payoff_place _ _ c.args.a c.args.i profile player c.self.invariant.three_players (few_profiles _ c.self.invariant c.args.s known))
