-- Tables and levels as they are kept, and what `opening` answers.
use Rattle.std.specs.Prelude.{◌≡◌, ℕ, ◌*◌, ◌^◌, ◌<◌, ◌≤◌, length, ℤ, pos, ◌+ℤ◌, unsigned_abs}
use Rattle.level_table.specs.declared.level.Level.{Level}
use Rattle.level_table.specs.declared.level.Level.TheVariants.{Empty, At}
use Rattle.level_table.specs.Problem.{Problem, direction_count, opening_level}
use Rattle.level_table.specs.Levels.{Table, IsTableOf, IsRow, IsSmall, level_at, levels_in, opening_table}

-- The word that keeps a level: 0 for Empty, and x + 2^62 for the number x.
abbrev pub kept_word : Level → ℕ
kept_word Empty = 0
kept_word (At x) = unsigned_abs (x +ℤ pos (2 ^ 62))

-- the word of some small level
abbrev pub IsWord : ℕ → Type 0
IsWord word = (l : Level) × IsSmall l × (word ≡ kept_word l)

-- a level for each state and direction, within the limits
pub record IsWhole (t : Table) : Type 0 where
  pub some_state : 1 ≤ t.states
  pub few_states : t.states ≤ 64
  pub some_direction : 1 ≤ t.directions
  pub few_directions : t.directions ≤ 32
  pub one_each : length t.levels ≡ t.states * t.directions

-- The new table is the old one with this level in one row.
pub record IsPut (old new : Table) (s k : ℕ) (level : Level) : Type 0 where
  pub states : new.states ≡ old.states
  pub directions : new.directions ≡ old.directions
  pub here : levels_in new s k ≡ level
  pub others : (t j : ℕ) → j < old.directions → (t ≡ s → j ≡ k → ⊥) → levels_in new t j ≡ levels_in old t j
  pub whole : IsWhole new

-- the opening table of a problem, with each level within its limit
pub record IsOpening (p : Problem) (t : Table) : Type 0 where
  pub sizes : IsTableOf p t
  pub levels : (s k : ℕ) → IsRow p s k → levels_in t s k ≡ opening_table p s k
  pub small : (row : ℕ) → IsSmall (level_at t row)

-- the number is the absolute value of the first opening level that passes 2^50
pub record IsFirstBeyond (p : Problem) (number : ℤ) : Type 0 where
  pub direction : ℕ
  pub known : direction < direction_count p
  pub here : number ≡ pos (unsigned_abs (opening_level p direction))
  pub beyond : 2 ^ 50 < unsigned_abs (opening_level p direction)
  pub none_before : (k : ℕ) → k < direction → unsigned_abs (opening_level p k) ≤ 2 ^ 50

-- a table of the problem whose levels are within 2^50 of zero
pub record IsSmallTable (p : Problem) (t : Table) : Type 0 where
  pub whole : IsWhole t
  pub sizes : IsTableOf p t
  pub small : (s k : ℕ) → IsRow p s k → IsSmall (levels_in t s k)

-- each opening level is within its limit
abbrev pub HasSmallOpening : Problem → Type 0
HasSmallOpening p = (k : ℕ) → k < direction_count p → unsigned_abs (opening_level p k) ≤ 2 ^ 50
