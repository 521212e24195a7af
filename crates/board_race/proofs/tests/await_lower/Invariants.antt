use Rattle.std.proofs.Common.{◌≡◌}
use Rattle.board_race.proofs.tests.await_lower.Given as goal

abbrev pub invariant-loop-turn : goal.invariant-loop-turn
invariant-loop-turn l = l.worker.pass.board ≡ l.board
