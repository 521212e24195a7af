-- What a pass loads into.
use Rattle.std.specs.Prelude.{◌≡◌, ◌⊎◌, ℕ, ◌+◌, ◌*◌, ◌<◌, length, List, Bool, true, false, slice_index_or, IfSome}
use Rattle.game_model.specs.Game.{counts, profile_count, successor}
use Rattle.level_table.specs.Problem.{Problem}
use Rattle.level_table.specs.Levels.{Table, level_at, levels_in}
use Rattle.level_table.specs.Notes.{HasRoomFor}
use Rattle.level_table.specs.Tables.{IsSmallTable}
use Rattle.schedule_core.specs.Frame.{Frame, IsFallen}
use Rattle.set_operator.specs.Prepared.{IsPrepared}
use Rattle.worker_pass.specs.declared.scratch.Scratch.{Scratch}

-- The scratch has room: a table of the problem's rows, each level Empty or within 2^50 of zero, and room for the profiles of any state. A state that it calls ready is so under its levels.
pub record IsScratch (p : Problem) (w : Scratch) : Type 0 where
  pub table : IsSmallTable p w.levels
  pub room : HasRoomFor p.game w.prepared.room
  pub note : HasRoomFor p.game (length w.note.reasons.list + w.note.reasons.spare)
  pub hints : length w.hints.items ≡ length w.levels.levels
  pub ready : IfSome w.ready (λ s. (w.prepared.state ≡ s) × IsPrepared p (levels_in w.levels) w.prepared)

-- Rows were loaded: the pass had seen v and then v', and the table was t and is then t'.
pub record IsLoaded (v v' t t' : Table) : Type 0 where
  pub fallen : IsFallen v v'
  -- what the table holds of the pass stays so
  pub held : (r : ℕ) → level_at t r ≡ level_at v r → level_at t' r ≡ level_at v' r
  -- a row that wasn't loaded is as before
  pub others : (r : ℕ) → (level_at v' r ≡ level_at v r) ⊎ (level_at t' r ≡ level_at v' r)

-- the table has what was seen in each row of state s
abbrev pub HoldsState : Frame → Table → Table → ℕ → Type 0
HoldsState f t v s = (k : ℕ) → k < f.start.directions → level_at t (s * f.start.directions + k) ≡ level_at v (s * f.start.directions + k)

-- the same of each state with a mark
abbrev pub HoldsMarked : Frame → Table → Table → List Bool → Type 0
HoldsMarked f t v marks = (s : ℕ) → slice_index_or marks s false ≡ true → HoldsState f t v s

-- the same of each state that follows a profile of state s
abbrev pub HoldsAfter : Frame → Table → Table → ℕ → Type 0
HoldsAfter f t v s = (a : ℕ) → a < profile_count (counts f.problem.game s) → HoldsState f t v (successor f.problem.game s a)
