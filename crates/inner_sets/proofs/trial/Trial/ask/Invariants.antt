use Rattle.inner_sets.proofs.Asks.{IsAskBelow}
use Rattle.inner_sets.proofs.trial.Trial.ask.Given as goal

abbrev pub invariant-loop-b : goal.invariant-loop-b
invariant-loop-b l = IsAskBelow l.self.game.now l.self.n l.self.summaries.now l.self.state l.self.profile l.i l.b l.ask
