-- What is counted of a table.
use Rattle.std.specs.Prelude.{◌≡◌, ℤ, pos}
use Rattle.game_model.specs.Game.{states}
use Rattle.game_model.specs.SelfGeneration.{sum_below}
use Rattle.level_table.specs.declared.level.Level.{Level}
use Rattle.level_table.specs.declared.level.Level.TheVariants.{Empty, At}
use Rattle.level_table.specs.Problem.{Problem, direction_count}
use Rattle.level_table.specs.Levels.{Levels}
use Rattle.level_table.specs.Iterates.{number_of}
use Rattle.make_run.specs.declared.made.Made.{Made}

-- 1 where the level is Empty
abbrev pub empty_count : Level → ℤ
empty_count Empty = pos 1
empty_count (At x) = pos 0

-- 1 where the level is a number
abbrev pub finite_count : Level → ℤ
finite_count Empty = pos 0
finite_count (At x) = pos 1

-- the sum of f of the level of each row
abbrev pub sum_of_rows : Problem → (Level → ℤ) → Levels → ℤ
sum_of_rows p f t = sum_below (λ s. sum_below (λ k. f (t s k)) (direction_count p)) (states p.game)

-- How many states are empty, how many rows are finite, and the sum of the finite levels. In a supported table all rows of a state are Empty where the first is.
pub record IsSummary (p : Problem) (t : Levels) (m : Made) : Type 0 where
  pub empty : pos m.empty ≡ sum_below (λ s. empty_count (t s 0)) (states p.game)
  pub rows : pos m.rows ≡ sum_of_rows p finite_count t
  pub total : m.total ≡ sum_of_rows p number_of t
