use Rattle.board_race.proofs.Fall.{fresh_level}
use Rattle.board_race.proofs.tests.lower_row.Goals as goal

pub lower-worker-requires-clause-level : goal.lower-worker-requires-clause-level
lower-worker-requires-clause-level c = fresh_level c.args.board.now.frame c.args.worker.now.pass.seen c.requires.fresh
