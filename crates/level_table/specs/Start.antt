-- The tables from which a run may start. The opening table without notes is one.
use Rattle.std.specs.Prelude.{◌≡◌, ℕ, ◌<◌, List, ℤ, ◌≤ℤ◌, neg_ℤ}
use Rattle.level_table.specs.declared.level.Level.{Level}
use Rattle.level_table.specs.declared.level.Level.TheVariants.{Empty, At}
use Rattle.direction_set.specs.DirectionTable.{opposite_of}
use Rattle.game_model.specs.Game.{states}
use Rattle.level_table.specs.Problem.{Problem, direction_count, opening_level}
use Rattle.level_table.specs.Levels.{Levels, IsRow, IsBelow, AtMost, Bounds}
use Rattle.level_table.specs.Supported.{IsEven, IsSupported}
use Rattle.level_table.specs.declared.reason.Note.{Note}
use Rattle.level_table.specs.Notes.{Named, AreNotes, Keeps, bounding}

-- Empty, or between the negative of the opposite opening level and its own opening level
abbrev pub IsBetween : Problem → ℕ → Level → Type 0
IsBetween p k Empty = Unit {0}
IsBetween p k (At x) = (neg_ℤ (opening_level p (opposite_of k)) ≤ℤ x) × (x ≤ℤ opening_level p k)

-- The level is at least that of every table at most the start that is supported with slack 1.
abbrev pub IsAboveSupported : Problem → Levels → ℕ → ℕ → Level → Type 0
IsAboveSupported p start s k l = (u : Levels) → IsBelow p u start → IsSupported p u 1 → AtMost (u s k) l

pub record IsStart (p : Problem) (start : Levels) (notes : List Note) : Type 0 where
  pub between : (s k : ℕ) → IsRow p s k → IsBetween p k (start s k)
  pub bounds : (s k : ℕ) → IsRow p s k → Bounds p s k (start s k)
  pub even : IsEven p start
  -- The notes name exactly the Empty states.
  pub named : (s k : ℕ) → IsRow p s k → start s k ≡ Empty → Named notes s
  pub emptied : (s k : ℕ) → IsRow p s k → Named notes s → start s k ≡ Empty
  pub right : AreNotes p (bounding p) notes
  pub kept_above : AreNotes p (λ s k x. IsAboveSupported p start s k (At x)) notes
