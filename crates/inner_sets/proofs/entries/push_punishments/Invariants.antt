use Rattle.inner_sets.specs.Built.{AddsPunishments}
use Rattle.inner_sets.proofs.entries.push_punishments.Given as goal

abbrev pub invariant-loop-b : goal.invariant-loop-b
invariant-loop-b l = AddsPunishments l.trial.game.now l.trial.summaries.now l.trial.state l.trial.profile l.i l.b l.initial.punish l.punish
