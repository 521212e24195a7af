use Rattle.std.proofs.Common.{◌≡◌, ◌⊎◌, ℕ, ◌<◌}
use Rattle.level_table.specs.Levels.{Levels, IsBelow, levels_in}
use Rattle.schedule_core.specs.Frame.{IsFallen}
use Rattle.worker_pass.specs.Scratches.{IsScratch}
use Rattle.worker_pass.specs.Updates.{IsPassedRow}
use Rattle.worker_pass.specs.Work.{HasMarked}
use Rattle.worker_pass.proofs.joining.update_rest.Given as goal

abbrev pub invariant-loop-row : goal.invariant-loop-row
invariant-loop-row l = record {
  board : l.pass.board ≡ l.board;
  scratch : IsScratch l.board.frame.problem l.scratch;
  fell : IsFallen l.fn.pass.seen l.pass.seen;
  passed : (above : Levels) → IsBelow l.board.frame.problem (levels_in l.fn.pass.seen) above → (r : ℕ) → r < l.row → HasMarked l.workers.items r ⊎ IsPassedRow l.board.frame above l.pass.seen r;
}
