use Rattle.inner_sets.proofs.WorkedRows.{both_given, one_given}
use Rattle.inner_sets.proofs.worked.points_are_given.Goals as goal

pub returns-clause-patient : goal.returns-clause-patient
returns-clause-patient c = both_given

pub returns-clause-impatient : goal.returns-clause-impatient
returns-clause-impatient c = one_given
