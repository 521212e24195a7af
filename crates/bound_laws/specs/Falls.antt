-- What is said of tables that come down from a start, and how far they can come down.
use Rattle.std.specs.Prelude.{◌≡◌, ℕ, ℤ, pos, ◌+ℤ◌, ◌≤ℤ◌, neg_ℤ}
use Rattle.direction_set.specs.DirectionTable.{opposite_of}
use Rattle.game_model.specs.Game.{states}
use Rattle.game_model.specs.SelfGeneration.{sum_below}
use Rattle.level_table.specs.declared.level.Level.{Level}
use Rattle.level_table.specs.declared.level.Level.TheVariants.{At}
use Rattle.level_table.specs.Problem.{Problem, direction_count}
use Rattle.level_table.specs.Levels.{Levels, AtMost, IsBelow, IsRow}
use Rattle.level_table.specs.Operator.{IsRowLevel}
use Rattle.level_table.specs.Iterates.{IsIterate, number_of, height}

-- Each level of u is at most each row level of t, and of each table that t is at most.
abbrev pub PassesRowLevels : Problem → Levels → Levels → Type 0
PassesRowLevels p t u = (v : Levels) (s k : ℕ) (l : Level) → IsBelow p t v → IsRow p s k → IsRowLevel p v s k l → AtMost (u s k) l

-- the table is at most the iterate after r steps from the start
abbrev pub IsBelowIterate : Problem → Levels → ℕ → Levels → Type 0
IsBelowIterate p start r t = (iterate : Levels) → IsIterate p start r iterate → IsBelow p t iterate

-- each level of the table is Empty or at least the negative of the opposite level of the start
abbrev pub HasFloor : Problem → Levels → Levels → Type 0
HasFloor p start t = (s k : ℕ) (x : ℤ) → IsRow p s k → t s k ≡ At x → neg_ℤ (number_of (start s (opposite_of k))) ≤ℤ x

-- the heights of all rows, and the number of states
abbrev pub most_drop : Problem → Levels → ℤ
most_drop p start = sum_below (λ s. sum_below (λ k. height start s k) (direction_count p)) (states p.game) +ℤ pos (states p.game)
