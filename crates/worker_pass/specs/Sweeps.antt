-- What a sweep leaves.
use Rattle.std.specs.Prelude.{◌≡◌, ◌≢◌, ℕ, ◌+◌, ◌<◌, List, length}
use Rattle.game_model.specs.Game.{states}
use Rattle.level_table.specs.declared.level.Level.TheVariants.{Empty}
use Rattle.level_table.specs.declared.reason.Note.{Note}
use Rattle.level_table.specs.Levels.{Table, AtMost, level_at, levels_in}
use Rattle.level_table.specs.Supported.{IsEven}
use Rattle.bound_laws.specs.Falls.{PassesRowLevels}
use Rattle.level_board.specs.Board.{OwnerView}
use Rattle.schedule_core.specs.Frame.{Frame, IsFallen, IsSeen, NamedRow, NamesEmpty, rows_of}
use Rattle.worker_pass.specs.declared.sweeping.SweepNote.{SweepNote}
use Rattle.worker_pass.specs.Clearings.{AreCleared, AreNamed, KeepsNotes}

-- each row of a state that has a note is Empty
abbrev pub IsCleared : Frame → List Note → Table → Type 0
IsCleared f notes t = (r : ℕ) → r < rows_of f → NamedRow f notes r → level_at t r ≡ Empty

-- The second table has in row 0 at most what the first has, and in every other row just that.
pub record HoldsButFirst (t u : Table) : Type 0 where
  pub first : AtMost (level_at u 0) (level_at t 0)
  pub others : (r : ℕ) → r ≢ 0 → level_at u r ≡ level_at t r

-- What a sweep makes of the owner, and the table t that it leaves: what the owner had seen after the passes joined, with Empty in each row that was cleared.
pub record IsSweep (f : Frame) (old new : OwnerView) (t : Table) (note : SweepNote) : Type 0 where
  pub loaded : Table
  pub fell : IsFallen old.seen loaded
  pub sound : IsSeen f loaded
  pub named : NamesEmpty f old.notes loaded
  pub even : IsEven f.problem (levels_in loaded)
  -- each state in order in which nothing is admissible was cleared, with a note that says why
  pub clearing : AreCleared f.problem (states f.problem.game) (levels_in loaded) old.notes (levels_in t) new.notes
  pub noted : KeepsNotes f.problem (levels_in loaded) old.notes new.notes
  pub cleared : length new.notes ≡ length old.notes + note.cleared
  -- what is left
  pub left : IsFallen loaded t
  pub left_sound : IsSeen f t
  pub left_even : IsEven f.problem (levels_in t)
  pub left_named : AreNamed f.problem (levels_in t) new.notes
  -- each level is at most the row level of what the owner had seen
  pub passed : PassesRowLevels f.problem (levels_in old.seen) (levels_in t)
  pub seen : HoldsButFirst t new.seen
