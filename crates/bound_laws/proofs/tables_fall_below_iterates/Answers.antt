use Rattle.bound_laws.proofs.Falls.{below_first_iterate, below_next_iterate}
use Rattle.bound_laws.proofs.tables_fall_below_iterates.Goals as goal

pub returns-clause-start : goal.returns-clause-start
returns-clause-start c = below_first_iterate

pub returns-clause-next : goal.returns-clause-next
returns-clause-next c = below_next_iterate
