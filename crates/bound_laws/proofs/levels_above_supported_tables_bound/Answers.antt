use Rattle.bound_laws.proofs.Bounding.{above_supported_bounds, kept_bounds}
use Rattle.bound_laws.proofs.Correspondence.{bounds_grow}
use Rattle.bound_laws.proofs.levels_above_supported_tables_bound.Goals as goal

pub returns-clause-level : goal.returns-clause-level
returns-clause-level c = above_supported_bounds

pub returns-clause-table : goal.returns-clause-table
returns-clause-table c = kept_bounds

pub returns-clause-greater : goal.returns-clause-greater
returns-clause-greater c = bounds_grow
