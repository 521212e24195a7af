use Rattle.std.proofs.Common.{sym, subst}
use Rattle.level_table.specs.Levels.{levels_in}
use Rattle.level_table.specs.Problem.{Problem}
use Rattle.level_table.specs.Supported.{IsEven}
use Rattle.settle_test.proofs.parts.settled.Goals as goal

pub settled_by_states-requires-clause-even : goal.settled_by_states-requires-clause-even
settled_by_states-requires-clause-even g c = λ lives within. subst (λ (p : Problem). IsEven p (levels_in c.args.levels.now)) (sym c.new-p.ensures.problem) c.requires.even
