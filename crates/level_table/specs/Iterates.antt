-- Plain iterates of the operator from a start table, and how far a table has come down.
use Rattle.std.specs.Prelude.{◌≡◌, ℕ, zero, suc, ℤ, pos, ◌+ℤ◌, ◌-ℤ◌}
use Rattle.level_table.specs.declared.level.Level.{Level}
use Rattle.level_table.specs.declared.level.Level.TheVariants.{Empty, At}
use Rattle.direction_set.specs.DirectionTable.{opposite_of}
use Rattle.game_model.specs.Game.{states}
use Rattle.game_model.specs.SelfGeneration.{sum_below}
use Rattle.level_table.specs.Problem.{Problem, direction_count}
use Rattle.level_table.specs.Levels.{Levels, IsRow, lesser}
use Rattle.level_table.specs.Operator.{IsRowLevel}

-- In each row the new table has the lesser of the old level and the row level of the old table.
abbrev pub IsNext : Problem → Levels → Levels → Type 0
IsNext p t u = (s k : ℕ) → IsRow p s k → (l : Level) × IsRowLevel p t s k l × (u s k ≡ lesser (t s k) l)

-- the table after r steps from the start
abbrev pub IsIterate : Problem → Levels → ℕ → Levels → Type 0
IsIterate p start zero t = (s k : ℕ) → IsRow p s k → t s k ≡ start s k
IsIterate p start (suc r) t = (u : Levels) × IsIterate p start r u × IsNext p u t

-- the number of a level, and 0 where it is Empty
abbrev pub number_of : Level → ℤ
number_of Empty = pos 0
number_of (At x) = x

-- how far apart the levels of a direction and its opposite are
abbrev pub height : Levels → ℕ → ℕ → ℤ
height start s k = number_of (start s k) +ℤ number_of (start s (opposite_of k))

-- how far a row has come down: the whole height where it is Empty
abbrev pub row_drop : Levels → ℕ → ℕ → Level → ℤ
row_drop start s k Empty = height start s k
row_drop start s k (At x) = number_of (start s k) -ℤ x

-- 1 for a state that has become Empty
abbrev pub emptied : Level → Level → ℤ
emptied Empty l = pos 0
emptied (At x) Empty = pos 1
emptied (At x) (At y) = pos 0

-- the sum of the drops of all rows, and the number of states that have become Empty
abbrev pub drop_of : Problem → Levels → Levels → ℤ
drop_of p start t = sum_below (λ s. sum_below (λ k. row_drop start s k (t s k)) (direction_count p) +ℤ emptied (start s 0) (t s 0)) (states p.game)
