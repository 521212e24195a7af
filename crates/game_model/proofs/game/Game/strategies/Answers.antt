-- a state lists one count for each player
use Rattle.std.proofs.Common.{arith}
use Rattle.game_model.proofs.Lists.{inner_length}
use Rattle.game_model.proofs.game.Game.strategies.Goals as goal

pub index-requires-2 : goal.index-requires-2
index-requires-2 c =
    let known = rw (← c.self.view_is) at c.requires.state in
    let player = rw (← c.self.view_is) at c.requires.player in
    let here = inner_length _ c.args.s c.index.result.now known c.index.ensures in
    omega (arith, (c.self.invariant.each_state c.args.s known).one_each)
