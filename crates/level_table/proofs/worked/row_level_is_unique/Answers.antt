use Rattle.level_table.proofs.WorkedRows.{unique}
use Rattle.level_table.proofs.worked.row_level_is_unique.Goals as goal

pub returns : goal.returns
returns c = unique
