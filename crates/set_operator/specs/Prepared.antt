-- A state made ready: what each profile's program is under a table of levels.
use Rattle.std.specs.Prelude.{◌≡◌, ◌↔◌, Bool, ℕ, ◌*◌, ◌<◌, List, length, slice_index_or, ℤ, Option, Some, None}
use Rattle.std.specs.Int.{int_min}
use Rattle.game_model.specs.Game.{counts, profile_count, states}
use Rattle.level_table.specs.declared.level.Level.TheVariants.{Empty, At}
use Rattle.level_table.specs.Problem.{Problem}
use Rattle.level_table.specs.Levels.{Levels, IsNumber, IsRow}
use Rattle.level_table.specs.Operator.{HasAdmissible, IsRowLevel}
use Rattle.level_table.specs.Reasons.{AreKnown}
use Rattle.set_operator.specs.Boxes.{AreFlags, IsBoxOf}
use Rattle.set_operator.specs.declared.boxes.ProfileBox.{ProfileBox}
use Rattle.set_operator.specs.declared.lesser.Lesser.{Lesser}

-- a state, which states are known, a box for each profile whose levels are, and room for so many
pub record PreparedState : Type 0 where
  pub state : ℕ
  pub flags : List Bool
  pub boxes : List (Option ProfileBox)
  pub room : ℕ

-- the box of a profile, and none where one of its levels is Empty
abbrev pub IsBoxAt : Problem → Levels → ℕ → ℕ → Option ProfileBox → Type 0
IsBoxAt p t s a None = AreKnown p t s a → ⊥
IsBoxAt p t s a (Some b) = (b.state ≡ s) × (b.profile ≡ a) × IsBoxOf p t b

-- the state is ready under the table
pub record IsPrepared (p : Problem) (t : Levels) (q : PreparedState) : Type 0 where
  pub state : q.state < states p.game
  pub flags : AreFlags p t q.flags
  pub one_each : length q.boxes ≡ profile_count (counts p.game q.state)
  pub boxes : (a : ℕ) → a < length q.boxes → IsBoxAt p t q.state a (slice_index_or q.boxes a None)

-- The tables have the same levels in the directions of the axes, and numbers in the same rows. So what is ready under one is ready under the other.
abbrev pub KeepsAxes : Problem → Levels → Levels → Type 0
KeepsAxes p t u = (s k : ℕ) → IsRow p s k → (k < 2 * p.game.players → u s k ≡ t s k) × (IsNumber (t s k) ↔ IsNumber (u s k))

-- the lesser of a level and the row level, where the state admits something
abbrev pub IsLesser : Problem → Levels → ℕ → ℕ → ℤ → Option Lesser → Type 0
IsLesser p t s k x None = IsRowLevel p t s k Empty
IsLesser p t s k x (Some found) =
    HasAdmissible p t s × (found.profile < profile_count (counts p.game s)) × ((m : ℤ) → IsRowLevel p t s k (At m) → found.level ≡ int_min x m)
