-- What an update of a row leaves.
use Rattle.std.specs.Prelude.{◌≡◌, ◌≢◌, ◌⊎◌, ℕ, ◌*◌, ◌+◌, ◌/◌, ◌%◌, ◌<◌}
use Rattle.game_model.specs.Game.{counts, profile_count, successor}
use Rattle.level_table.specs.declared.level.Level.{Level}
use Rattle.level_table.specs.declared.level.Level.TheVariants.{Empty, At}
use Rattle.level_table.specs.Levels.{Levels, Table, AtMost, IsNumber, level_at}
use Rattle.level_table.specs.Operator.{IsRowLevel}
use Rattle.schedule_core.specs.Frame.{Frame, IsFallen, IsRowLevelOf}
use Rattle.worker_pass.specs.declared.updating.UpdateNote.{UpdateNote}
use Rattle.worker_pass.specs.declared.updating.UpdateNote.TheVariants as notes

-- the row is one of a state that follows a profile of the state of the other row
abbrev pub FollowsRow : Frame → ℕ → ℕ → Type 0
FollowsRow f row r =
    (a k : ℕ) × (a < profile_count (counts f.problem.game (row / f.start.directions))) × (k < f.start.directions)
    × (r ≡ successor f.problem.game (row / f.start.directions) a * f.start.directions + k)

-- The row's seen level was lowered to the row level of the table. All else that was seen stays.
abbrev pub IsLowering : Frame → Table → Table → Table → ℕ → UpdateNote → Type 0
IsLowering f t v v' row (notes.Lowered level) =
    IsRowLevelOf f t row (At level) × AtMost (level_at v' row) (At level) × IsFallen v v' × ((r : ℕ) → r ≢ row → level_at v' r ≡ level_at v r)
IsLowering f t v v' row notes.WasEmpty = ⊥
IsLowering f t v v' row notes.NothingAdmissible = IsRowLevelOf f t row Empty × (v' ≡ v)

-- What the answer says: the row is Empty in the table; or nothing is admissible under the table; or the row was lowered to its row level under the table.
abbrev pub IsAnswer : Frame → Table → Table → ℕ → UpdateNote → Type 0
IsAnswer f t v' row (notes.Lowered level) =
    IsNumber (level_at t row) × IsRowLevelOf f t row (At level) × AtMost (level_at v' row) (At level)
IsAnswer f t v' row notes.WasEmpty = (level_at t row ≡ Empty) × (level_at v' row ≡ Empty)
IsAnswer f t v' row notes.NothingAdmissible =
    IsNumber (level_at t row) × IsRowLevelOf f t row Empty × (level_at v' row ≡ level_at t row)

-- The pass had seen v and has then seen v', and the table is what the row was lowered under: the row as it was seen before that, and what has then been seen of the states that follow. No clause says how new it is; that rows are loaded for it is tested.
pub record IsUpdated (f : Frame) (v v' t : Table) (row : ℕ) (note : UpdateNote) : Type 0 where
  pub fallen : IsFallen v v'
  pub loaded : AtMost (level_at t row) (level_at v row)
  pub lowered : AtMost (level_at v' row) (level_at t row)
  -- the table has what was seen in each row of a state that follows
  pub held : IsNumber (level_at t row) → (r : ℕ) → r ≢ row → FollowsRow f row r → level_at t r ≡ level_at v' r
  -- no other row is lowered
  pub others : (r : ℕ) → (level_at v' r ≡ level_at v r) ⊎ ((r ≡ row) ⊎ (level_at t r ≡ level_at v' r))
  pub answer : IsAnswer f t v' row note

-- The row is at most each row level of a table from which the levels came down, or nothing is admissible any more.
abbrev pub IsPassedRow : Frame → Levels → Table → ℕ → Type 0
IsPassedRow f above t row = (l : Level) → IsRowLevel f.problem above (row / f.start.directions) (row % f.start.directions) l
    → AtMost (level_at t row) l ⊎ IsRowLevelOf f t row Empty
