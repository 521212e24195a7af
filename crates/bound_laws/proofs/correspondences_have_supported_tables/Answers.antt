use Rattle.bound_laws.proofs.Correspondence.{table_exists, table_is_supported, table_is_below}
use Rattle.bound_laws.proofs.correspondences_have_supported_tables.Goals as goal

pub returns-clause-exists : goal.returns-clause-exists
returns-clause-exists c = table_exists

pub returns-clause-supported : goal.returns-clause-supported
returns-clause-supported c = table_is_supported

pub returns-clause-below : goal.returns-clause-below
returns-clause-below c = table_is_below
