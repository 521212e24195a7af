use Rattle.game_model.proofs.WorkedRows.{not_rewarded, not_promised_more, not_weightless, not_third_entry, not_one_punishment, not_third_strategy}
use Rattle.game_model.proofs.worked.neighbours_are_refused.Goals as goal

pub returns-clause-rewarded : goal.returns-clause-rewarded
returns-clause-rewarded c = not_rewarded

pub returns-clause-promised_more : goal.returns-clause-promised_more
returns-clause-promised_more c = not_promised_more

pub returns-clause-weightless : goal.returns-clause-weightless
returns-clause-weightless c = not_weightless

pub returns-clause-third_entry : goal.returns-clause-third_entry
returns-clause-third_entry c = not_third_entry

pub returns-clause-one_punishment : goal.returns-clause-one_punishment
returns-clause-one_punishment c = not_one_punishment

pub returns-clause-third_strategy : goal.returns-clause-third_strategy
returns-clause-third_strategy c = not_third_strategy
