use Rattle.board_race.proofs.Fall.{fresh_after, fresh_level}
use Rattle.board_race.proofs.level_is_halved.Goals as goal

pub returns-clause-halved : goal.returns-clause-halved
returns-clause-halved c = fresh_level

pub returns-clause-other_row : goal.returns-clause-other_row
returns-clause-other_row c = fresh_after
