use Rattle.bound_laws.proofs.Start.{opening_has_bounds, opening_is_start}
use Rattle.bound_laws.proofs.opening_is_start.Goals as goal

pub returns-clause-bounds : goal.returns-clause-bounds
returns-clause-bounds c = opening_has_bounds

pub returns-clause-start : goal.returns-clause-start
returns-clause-start c = opening_is_start
