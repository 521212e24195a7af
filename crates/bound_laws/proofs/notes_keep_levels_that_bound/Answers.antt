use Rattle.bound_laws.proofs.Notes.{notes_of_bounds, notes_above_bound, noted}
use Rattle.bound_laws.proofs.notes_keep_levels_that_bound.Goals as goal

pub returns-clause-named : goal.returns-clause-named
returns-clause-named c = notes_of_bounds

pub returns-clause-kept_above : goal.returns-clause-kept_above
returns-clause-kept_above c = notes_above_bound

pub returns-clause-one_more : goal.returns-clause-one_more
returns-clause-one_more c = noted
