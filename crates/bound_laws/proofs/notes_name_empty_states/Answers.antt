use Rattle.bound_laws.proofs.Notes.{notes_of_table, notes_of_start}
use Rattle.bound_laws.proofs.notes_name_empty_states.Goals as goal

pub returns-clause-kept_in_table : goal.returns-clause-kept_in_table
returns-clause-kept_in_table c = notes_of_table

pub returns-clause-kept_above : goal.returns-clause-kept_above
returns-clause-kept_above c = notes_of_start
