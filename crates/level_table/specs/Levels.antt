-- Levels, their order, and tables of them.
use Rattle.std.specs.Prelude.{◌≡◌, ℕ, ◌+◌, ◌*◌, ◌^◌, ◌<◌, List, [], length, slice_index_or, ℤ, pos, ◌≤ℤ◌, neg_ℤ, if◌then◌else◌}
use Rattle.std.specs.Int.{int_min}
use Rattle.level_table.specs.declared.level.Level.{Level}
use Rattle.level_table.specs.declared.level.Level.TheVariants.{Empty, At}
use Rattle.game_model.specs.Game.{states}
use Rattle.game_model.specs.SelfGeneration.{BoundsPoints, HasNoEntry}
use Rattle.level_table.specs.Problem.{Problem, direction_count, direction, unit, opening_level}

-- Empty is less than each number.
abbrev pub AtMost : Level → Level → Type 0
AtMost Empty b = Unit {0}
AtMost (At x) Empty = ⊥
AtMost (At x) (At y) = x ≤ℤ y

abbrev pub lesser : Level → Level → Level
lesser Empty b = Empty
lesser (At x) Empty = Empty
lesser (At x) (At y) = At (int_min x y)

-- a level that is a number
abbrev pub IsNumber : Level → Type 0
IsNumber Empty = ⊥
IsNumber (At x) = Unit {0}

-- within 2^50 of zero
abbrev pub IsSmall : Level → Type 0
IsSmall Empty = Unit {0}
IsSmall (At x) = (neg_ℤ (pos (2 ^ 50)) ≤ℤ x) × (x ≤ℤ pos (2 ^ 50))

-- a level for each state and direction
abbrev pub Levels : Type 0
Levels = ℕ → ℕ → Level

-- a row is a state and a direction of the problem
pub record IsRow (p : Problem) (s k : ℕ) : Type 0 where
  pub state : s < states p.game
  pub direction : k < direction_count p

-- each level of the first table is at most that of the second
abbrev pub IsBelow : Problem → Levels → Levels → Type 0
IsBelow p t u = (s k : ℕ) → IsRow p s k → AtMost (t s k) (u s k)

abbrev pub opening_table : Problem → Levels
opening_table p s k = At (opening_level p k)

-- The level bounds state s in direction k: each point of each self-generating correspondence keeps it, and Empty says that none has an entry in the state.
abbrev pub Bounds : Problem → ℕ → ℕ → Level → Type 0
Bounds p s k Empty = HasNoEntry p.game s
Bounds p s k (At x) = BoundsPoints p.game (unit p) s (direction p k) x

-- a table as it is kept: row s * directions + k is direction k of state s
pub record Table : Type 0 where
  pub states : ℕ
  pub directions : ℕ
  pub levels : List Level

abbrev pub level_at : Table → ℕ → Level
level_at t row = slice_index_or t.levels row Empty

-- the levels of a table by state and direction
abbrev pub levels_in : Table → Levels
levels_in t s k = level_at t (s * t.directions + k)

-- a table with a row for each state and direction of the problem
pub record IsTableOf (p : Problem) (t : Table) : Type 0 where
  pub states_agree : t.states ≡ states p.game
  pub directions_agree : t.directions ≡ direction_count p
