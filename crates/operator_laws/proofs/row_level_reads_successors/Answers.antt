use Rattle.operator_laws.proofs.Successors.{reads}
use Rattle.operator_laws.proofs.row_level_reads_successors.Goals as goal

pub returns : goal.returns
returns c = reads
