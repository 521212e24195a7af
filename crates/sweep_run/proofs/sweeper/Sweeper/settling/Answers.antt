use Rattle.std.proofs.Common.{sym, subst}
use Rattle.level_table.specs.Levels.{levels_in}
use Rattle.level_table.specs.Problem.{Problem}
use Rattle.level_table.specs.Supported.{IsEven}
use Rattle.sweep_run.proofs.sweeper.Sweeper.settling.Goals as goal

pub failing_row-found-requires-clause-even : goal.failing_row-found-requires-clause-even
failing_row-found-requires-clause-even g c = subst (λ (q : Problem). IsEven q (levels_in c.args.self.now.scratch.levels)) (sym c.problem-p.ensures) c.requires.sweeper.even
