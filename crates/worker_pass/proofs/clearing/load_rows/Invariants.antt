use Rattle.std.proofs.Common.{◌≡◌, ℕ, ◌<◌}
use Rattle.level_table.specs.Levels.{level_at}
use Rattle.schedule_core.specs.Frame.{IsFallen}
use Rattle.worker_pass.specs.Scratches.{IsScratch}
use Rattle.worker_pass.proofs.clearing.load_rows.Given as goal

abbrev pub invariant-loop-row : goal.invariant-loop-row
invariant-loop-row l = record {
  owner : l.owner.board ≡ l.board;
  scratch : IsScratch l.board.frame.problem l.scratch;
  loaded : (r : ℕ) → r < l.row → level_at l.scratch.levels r ≡ level_at l.owner.seen r;
  fell : IsFallen l.fn.owner.seen l.owner.seen;
  notes : l.owner.notes ≡ l.fn.owner.notes;
}
