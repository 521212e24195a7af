use Rattle.bound_laws.proofs.Operator.{admissible_grows, row_levels_grow, row_level_is_unique, next_grows, iterates_grow}
use Rattle.bound_laws.proofs.operator_is_monotone.Goals as goal

pub returns-clause-admissible_grows : goal.returns-clause-admissible_grows
returns-clause-admissible_grows c = admissible_grows

pub returns-clause-row_levels_grow : goal.returns-clause-row_levels_grow
returns-clause-row_levels_grow c = row_levels_grow

pub returns-clause-row_level_is_unique : goal.returns-clause-row_level_is_unique
returns-clause-row_level_is_unique c = row_level_is_unique

pub returns-clause-next_grows : goal.returns-clause-next_grows
returns-clause-next_grows c = next_grows

pub returns-clause-iterates_grow : goal.returns-clause-iterates_grow
returns-clause-iterates_grow c = iterates_grow
