-- What a run keeps of its table, and what one sweep does.
use Rattle.std.specs.Prelude.{ℕ, List}
use Rattle.game_model.specs.Game.{states}
use Rattle.level_table.specs.declared.reason.Note.{Note}
use Rattle.level_table.specs.Problem.{Problem}
use Rattle.level_table.specs.Levels.{Levels, Table, IsNumber, IsRow, IsBelow, levels_in}
use Rattle.level_table.specs.Supported.{IsEven}
use Rattle.level_table.specs.Tables.{IsSmallTable}
use Rattle.bound_laws.specs.Falls.{PassesRowLevels}
use Rattle.bound_laws.specs.Laws.{HasRange, KeepsSupported}
use Rattle.worker_pass.specs.Clearings.{AreCleared}

-- a small table whose states are all Empty or all numbers, each between the negative of the opposite opening level and its own
pub record IsSound (p : Problem) (t : Table) : Type 0 where
  pub table : IsSmallTable p t
  pub even : IsEven p (levels_in t)
  pub range : HasRange p (levels_in t)

-- The table of a run: at most the start, and at least every supported table that is at most the start.
pub record IsRunTable (p : Problem) (start : Levels) (t : Table) : Type 0 where
  pub sound : IsSound p t
  pub below : IsBelow p (levels_in t) start
  pub kept : KeepsSupported p start (levels_in t)

-- no number has become Empty
abbrev pub StaysNumber : Problem → Levels → Levels → Type 0
StaysNumber p t u = (s k : ℕ) → IsRow p s k → IsNumber (t s k) → IsNumber (u s k)

-- What one step of a sweep leaves: a table at most the old one, and at least every supported table that is at most the old one.
pub record IsStep (p : Problem) (old new : Table) : Type 0 where
  pub sound : IsSound p new
  pub below : IsBelow p (levels_in new) (levels_in old)
  pub kept : KeepsSupported p (levels_in old) (levels_in new)

-- What a sweep makes of a table and its notes: each row comes down to at most its row level, and then each state is cleared in which nothing is admissible.
pub record IsSwept (p : Problem) (old : Table) (before : List Note) (new : Table) (after : List Note) : Type 0 where
  pub step : IsStep p old new
  pub passed : PassesRowLevels p (levels_in old) (levels_in new)
  -- the table before states are cleared
  pub lowered : Table
  pub lowering : IsStep p old lowered
  pub numbers : StaysNumber p (levels_in old) (levels_in lowered)
  pub clearing : AreCleared p (states p.game) (levels_in lowered) before (levels_in new) after
