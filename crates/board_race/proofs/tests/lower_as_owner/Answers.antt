use Rattle.board_race.proofs.Fall.{fresh_level}
use Rattle.board_race.proofs.tests.lower_as_owner.Goals as goal

pub lower_owner-requires-clause-level : goal.lower_owner-requires-clause-level
lower_owner-requires-clause-level c = fresh_level c.args.board.now.frame c.args.owner.now.seen c.requires.fresh
