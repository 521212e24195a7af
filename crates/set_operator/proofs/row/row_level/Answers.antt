use Rattle.level_table.specs.Levels.{levels_in}
use Rattle.set_operator.proofs.SearchLemmas.{answer_is_empty}
use Rattle.set_operator.proofs.row.row_level.Goals as goal

pub explain-requires-clause-nothing : goal.explain-requires-clause-nothing
explain-requires-clause-nothing c = answer_is_empty c.new-p.result (levels_in c.args.levels.now) c.args.state c.args.dir c.answer_of-answer.result c.in-EmptyState.is c.answer_of-answer.ensures
