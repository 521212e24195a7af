use Rattle.std.proofs.Common.{sym, subst}
use Rattle.level_table.specs.Levels.{levels_in}
use Rattle.level_table.specs.Problem.{Problem}
use Rattle.level_table.specs.Supported.{IsEven}
use Rattle.sweep_run.proofs.sweeper.Sweeper.verdict.Goals as goal

pub verdict_of-requires-clause-even : goal.verdict_of-requires-clause-even
verdict_of-requires-clause-even g c = subst (λ (q : Problem). IsEven q (levels_in c.args.self.now.scratch.levels)) (sym c.problem-p.ensures) c.requires.sweeper.even

pub settled_by_states-requires-clause-even : goal.settled_by_states-requires-clause-even
settled_by_states-requires-clause-even g c = λ lives within. subst (λ (q : Problem). IsEven q (levels_in c.args.self.now.scratch.levels)) (sym c.problem-p.ensures) c.requires.sweeper.even
