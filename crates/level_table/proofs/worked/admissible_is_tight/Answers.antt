use Rattle.level_table.proofs.WorkedRows.{payoffs_admissible, above_not_admissible}
use Rattle.level_table.proofs.worked.admissible_is_tight.Goals as goal

pub returns-clause-payoffs : goal.returns-clause-payoffs
returns-clause-payoffs c = payoffs_admissible

pub returns-clause-above : goal.returns-clause-above
returns-clause-above c = above_not_admissible
