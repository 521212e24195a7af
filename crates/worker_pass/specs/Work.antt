-- What a worker does in a sweep.
use Rattle.std.specs.Prelude.{◌≡◌, ℕ, ◌<◌, All, List, length, slice_index_or, true, false}
use Rattle.level_table.specs.Levels.{Levels, IsBelow, levels_in}
use Rattle.level_board.specs.Board.{BoardId}
use Rattle.schedule_core.specs.Frame.{Frame, IsFallen, rows_of}
use Rattle.worker_pass.specs.declared.working.Worker.{Worker}
use Rattle.worker_pass.specs.Scratches.{IsScratch}
use Rattle.worker_pass.specs.Updates.{IsPassedRow}

-- a worker at the board, with room for its levels and a mark for each row
pub record IsWorkerOf (b : BoardId) (w : Worker) : Type 0 where
  pub board : w.pass.board ≡ b
  pub scratch : IsScratch b.frame.problem w.scratch
  pub one_each : length w.done ≡ rows_of b.frame

-- the row has the worker's mark
abbrev pub IsMarked : Worker → ℕ → Type 0
IsMarked w r = slice_index_or w.done r false ≡ true

-- some worker has marked the row
abbrev pub HasMarked : List Worker → ℕ → Type 0
HasMarked ws r = (i : ℕ) × (i < length ws) × ((d : Worker) → IsMarked (slice_index_or ws i d) r)

-- each marked row is at most its row level of the table above, or nothing is admissible
abbrev pub Marks : Frame → Levels → Worker → Type 0
Marks f above w = (r : ℕ) → r < rows_of f → IsMarked w r → IsPassedRow f above w.pass.seen r

-- What a worker did: its levels fell, and each row that it marked was passed, for each table that they came down from.
pub record Did (f : Frame) (w w' : Worker) : Type 0 where
  pub fallen : IsFallen w.pass.seen w'.pass.seen
  pub marks : (above : Levels) → IsBelow f.problem (levels_in w.pass.seen) above → Marks f above w'

-- what each worker did
pub record HaveWorked (b : BoardId) (ws ws' : List Worker) : Type 0 where
  pub len : length ws' ≡ length ws
  pub workers : All (λ w. IsWorkerOf b w) ws'
  pub did : (i : ℕ) (d : Worker) → i < length ws → Did b.frame (slice_index_or ws i d) (slice_index_or ws' i d)
