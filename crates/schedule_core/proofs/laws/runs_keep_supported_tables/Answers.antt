use Rattle.schedule_core.proofs.Runs.{runs_bound, runs_valid}
use Rattle.schedule_core.proofs.laws.runs_keep_supported_tables.Goals as goal

pub returns-clause-valid : goal.returns-clause-valid
returns-clause-valid c = runs_valid

pub returns-clause-bound : goal.returns-clause-bound
returns-clause-bound c = runs_bound
