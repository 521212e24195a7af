use Rattle.std.proofs.Common.{arith}
use Rattle.inner_sets.proofs.Asks.{either_player}
use Rattle.inner_sets.proofs.trial.Trial.deters_all.Goals as goal

pub returns-then-deters : goal.returns-then-deters
returns-then-deters c = (
  λ yes i b dev. either_player c.args.self.now.game.now c.args.self.now.n c.args.self.now.summaries.now c.args.self.now.state c.args.self.now.profile c.args.point i b (omega (arith, dev.player, c.requires.trial.two_players))
      (c.deters.ensures.0 c.if-deters.true) (c.deters-then-deters.ensures.0 yes) dev,
  λ all. c.deters-then-deters.ensures.1 (λ b. all 1 b),
)
