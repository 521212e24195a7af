use Rattle.game_model.proofs.WorkedRows.{both_self_generating, not_impatient}
use Rattle.game_model.proofs.worked.cooperation_needs_patience.Goals as goal

pub returns-clause-patient : goal.returns-clause-patient
returns-clause-patient c = both_self_generating

pub returns-clause-impatient : goal.returns-clause-impatient
returns-clause-impatient c = not_impatient
