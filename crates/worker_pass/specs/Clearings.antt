-- States that become Empty, one after the other, each with a note.
use Rattle.std.specs.Prelude.{◌≡◌, ◌≢◌, ◌⊎◌, ◌↔◌, ◌∷◌, ℕ, zero, suc, ◌<◌, ◌++◌, List, []}
use Rattle.game_model.specs.Game.{states}
use Rattle.level_table.specs.declared.level.Level.TheVariants.{Empty}
use Rattle.level_table.specs.declared.reason.Note.{Note}
use Rattle.level_table.specs.Problem.{Problem, direction_count}
use Rattle.level_table.specs.Levels.{Levels, IsRow}
use Rattle.level_table.specs.Notes.{Named}
use Rattle.level_table.specs.Operator.{HasAdmissible}
use Rattle.level_table.specs.Reasons.{IsNoteOver}
use Rattle.bound_laws.specs.Laws.{HasKeptAbove, KeepsSupported}

-- the same levels
abbrev pub AreSame : Problem → Levels → Levels → Type 0
AreSame p t u = (s k : ℕ) → IsRow p s k → u s k ≡ t s k

-- notes of exactly the Empty states
abbrev pub AreNamed : Problem → Levels → List Note → Type 0
AreNamed p t notes = (s : ℕ) → s < states p.game → (Named notes s ↔ (t s 0 ≡ Empty))

-- Notes that were added keep right: over each start whose supported tables the old levels keep.
abbrev pub KeepsNotes : Problem → Levels → List Note → List Note → Type 0
KeepsNotes p old before after = (start : Levels) → KeepsSupported p start old → HasKeptAbove p start before → HasKeptAbove p start after

-- A state that is Empty, or in which something is admissible, stays as it is.
pub record StaysUncleared (p : Problem) (s : ℕ) (t : Levels) (before : List Note) (u : Levels) (after : List Note) : Type 0 where
  pub why : (t s 0 ≡ Empty) ⊎ HasAdmissible p t s
  pub levels : AreSame p t u
  pub notes : after ≡ before

-- Another one becomes Empty, and gets its note over the levels that stood before.
pub record IsEmptied (p : Problem) (s : ℕ) (t : Levels) (before : List Note) (u : Levels) (after : List Note) : Type 0 where
  pub number : t s 0 ≡ Empty → ⊥
  pub dead : HasAdmissible p t s → ⊥
  pub here : (k : ℕ) → k < direction_count p → u s k ≡ Empty
  pub others : (r k : ℕ) → IsRow p r k → r ≢ s → u r k ≡ t r k
  pub note : Note
  pub noted : IsNoteOver p t s note
  pub notes : after ≡ before ++ note ∷ []

abbrev pub IsGoneThrough : Problem → ℕ → Levels → List Note → Levels → List Note → Type 0
IsGoneThrough p s t before u after = StaysUncleared p s t before u after ⊎ IsEmptied p s t before u after

-- The states below n were gone through in order, from the levels t and the notes before to the levels u and the notes after.
abbrev pub AreCleared : Problem → ℕ → Levels → List Note → Levels → List Note → Type 0
AreCleared p zero t before u after = AreSame p t u × (after ≡ before)
AreCleared p (suc s) t before u after =
    (v : Levels) × (mid : List Note) × AreCleared p s t before v mid × IsGoneThrough p s v mid u after
