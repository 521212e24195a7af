use Rattle.bound_laws.proofs.Opening.{value_at_most_opening, value_at_least_opening, row_level_is_between}
use Rattle.bound_laws.proofs.Start.{iterate_is_between}
use Rattle.bound_laws.proofs.nothing_passes_the_opening.Goals as goal

pub returns-clause-value_at_most : goal.returns-clause-value_at_most
returns-clause-value_at_most c = value_at_most_opening

pub returns-clause-value_at_least : goal.returns-clause-value_at_least
returns-clause-value_at_least c = value_at_least_opening

pub returns-clause-row_level : goal.returns-clause-row_level
returns-clause-row_level c = row_level_is_between

pub returns-clause-iterate : goal.returns-clause-iterate
returns-clause-iterate c = iterate_is_between
