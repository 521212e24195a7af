use Rattle.bound_laws.proofs.Operator.{supported_at_most_row_level, supported_at_most_lowered, supported_below_next, supported_below_iterate}
use Rattle.bound_laws.proofs.row_levels_keep_a_supported_table.Goals as goal

pub returns-clause-row_level : goal.returns-clause-row_level
returns-clause-row_level c = supported_at_most_row_level

pub returns-clause-lowered : goal.returns-clause-lowered
returns-clause-lowered c = supported_at_most_lowered

pub returns-clause-next : goal.returns-clause-next
returns-clause-next c = supported_below_next

pub returns-clause-iterate : goal.returns-clause-iterate
returns-clause-iterate c = supported_below_iterate
