-- a state has up to 4096 profiles
use Rattle.std.proofs.Common.{arith}
use Rattle.game_model.proofs.Lists.{inner_length, few_profiles}
use Rattle.game_model.proofs.game.Game.profiles.Goals as goal

pub overflow_cast-result : goal.overflow_cast-result
overflow_cast-result c =
    let known = rw (← c.self.view_is) at c.requires in
    let here = inner_length _ c.args.s c.index.result.now (omega (arith, known, c.self.invariant.next_listed)) c.index.ensures in
    omega (arith, few_profiles _ c.self.invariant c.args.s known, (c.self.invariant.each_state c.args.s known).next_fit)
