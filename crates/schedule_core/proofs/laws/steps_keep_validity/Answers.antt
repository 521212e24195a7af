use Rattle.schedule_core.proofs.Events.{join_valid, note_valid, split_valid, step_valid}
use Rattle.schedule_core.proofs.laws.steps_keep_validity.Goals as goal

pub returns-clause-event : goal.returns-clause-event
returns-clause-event c = step_valid

pub returns-clause-note : goal.returns-clause-note
returns-clause-note c = note_valid

pub returns-clause-split : goal.returns-clause-split
returns-clause-split c = split_valid

pub returns-clause-join : goal.returns-clause-join
returns-clause-join c = join_valid
