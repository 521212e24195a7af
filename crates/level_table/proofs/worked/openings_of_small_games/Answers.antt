use Rattle.std.proofs.Common.{refl}
use Rattle.level_table.proofs.WorkedRows.{first_beyond, none_beyond}
use Rattle.level_table.proofs.worked.openings_of_small_games.Goals as goal

pub returns-clause-one_profile : goal.returns-clause-one_profile
returns-clause-one_profile c = refl

pub returns-clause-prisoners : goal.returns-clause-prisoners
returns-clause-prisoners c = refl

pub returns-clause-beyond : goal.returns-clause-beyond
returns-clause-beyond c = first_beyond

pub returns-clause-at_the_limit : goal.returns-clause-at_the_limit
returns-clause-at_the_limit c = none_beyond
