use Rattle.bound_laws.proofs.Bounding.{start_is_kept, row_level_is_kept, lesser_is_kept}
use Rattle.bound_laws.proofs.Notes.{named_is_kept}
use Rattle.bound_laws.proofs.levels_keep_supported_tables.Goals as goal

pub returns-clause-start : goal.returns-clause-start
returns-clause-start c = start_is_kept

pub returns-clause-row_level : goal.returns-clause-row_level
returns-clause-row_level c = row_level_is_kept

pub returns-clause-lesser_of_two : goal.returns-clause-lesser_of_two
returns-clause-lesser_of_two c = lesser_is_kept

pub returns-clause-named_empty : goal.returns-clause-named_empty
returns-clause-named_empty c = named_is_kept
