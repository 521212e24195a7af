use Rattle.schedule_core.proofs.Opening.{start_valid}
use Rattle.schedule_core.proofs.laws.start_is_valid.Goals as goal

pub returns-clause-valid : goal.returns-clause-valid
returns-clause-valid c = start_valid
