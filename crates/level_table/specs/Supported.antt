-- Supported tables, and the greatest one.
use Rattle.std.specs.Prelude.{◌≡◌, ◌⊎◌, ℕ, ◌<◌, ℤ, pos, ◌-ℤ◌}
use Rattle.level_table.specs.declared.level.Level.TheVariants.{Empty, At}
use Rattle.game_model.specs.Game.{states}
use Rattle.level_table.specs.Problem.{Problem, direction_count}
use Rattle.level_table.specs.Levels.{Levels, IsNumber, IsRow, IsBelow}
use Rattle.level_table.specs.Operator.{HasValueAbove}

-- the rows of each state are all Empty or all numbers
abbrev pub IsEven : Problem → Levels → Type 0
IsEven p t = (s : ℕ) → s < states p.game → ((k : ℕ) → k < direction_count p → t s k ≡ Empty) ⊎ ((k : ℕ) → k < direction_count p → IsNumber (t s k))

-- The table is supported within the slack: each finite level has an admissible value that is greater than the level less the slack.
pub record IsSupported (p : Problem) (t : Levels) (slack : ℕ) : Type 0 where
  pub even : IsEven p t
  pub supports : (s k : ℕ) (x : ℤ) → IsRow p s k → t s k ≡ At x → HasValueAbove p t s k (x -ℤ pos slack)

-- The table is at most the start and supported with slack 1, and each table that is both is at most it.
pub record IsGreatest (p : Problem) (start t : Levels) : Type 0 where
  pub below : IsBelow p t start
  pub supported : IsSupported p t 1
  pub greatest : (u : Levels) → IsBelow p u start → IsSupported p u 1 → IsBelow p u t
