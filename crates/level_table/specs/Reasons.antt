-- Why nothing is admissible after a profile, over a table alone: a state with an Empty level stands for one that was named empty.
use Rattle.std.specs.Prelude.{◌≡◌, ◌⊎◌, ℕ, ◌<◌, List, All, length, slice_index_or, ℤ, neg_ℤ, ◌-ℤ◌, ◌≤ℤ◌, ◌<ℤ◌}
use Rattle.game_model.specs.Game.{counts, profile_count, successor, reached, IsDeviation}
use Rattle.level_table.specs.declared.level.Level.TheVariants.{At}
use Rattle.level_table.specs.declared.reason.Item.{Item}
use Rattle.level_table.specs.declared.reason.Item.TheVariants as items
use Rattle.level_table.specs.declared.reason.Reason.{Reason}
use Rattle.level_table.specs.declared.reason.Reason.TheVariants as reasons
use Rattle.level_table.specs.declared.reason.Note.{Note}
use Rattle.level_table.specs.Problem.{Problem, direction_count, minus_axis, gain}
use Rattle.level_table.specs.Levels.{Levels, IsNumber}
use Rattle.level_table.specs.Notes.{IsCertificate, IsEarlier, levels_of}

-- each level of the state is a number
abbrev pub IsKnown : Problem → Levels → ℕ → Type 0
IsKnown p t s = (k : ℕ) → k < direction_count p → IsNumber (t s k)

-- each state that the profile or a deviation from it reaches has numbers alone
pub record AreKnown (p : Problem) (t : Levels) (s a : ℕ) : Type 0 where
  pub next : IsKnown p t (successor p.game s a)
  pub reached_states : (i b : ℕ) → IsDeviation p.game s a i b → IsKnown p t (reached p.game s a i b)

-- Of all deviations of player i, strategy b asks the most of the part that follows, its gain less the level x of the state that it reaches. Each earlier strategy asks for less.
pub record IsGainRow (p : Problem) (t : Levels) (s a i b : ℕ) (x : ℤ) : Type 0 where
  pub deviation : IsDeviation p.game s a i b
  pub kept : t (reached p.game s a i b) (minus_axis i) ≡ At x
  pub most : (c : ℕ) (y : ℤ) → IsDeviation p.game s a i c → t (reached p.game s a i c) (minus_axis i) ≡ At y → (gain p s a i c -ℤ y) ≤ℤ (gain p s a i b -ℤ x)
  pub first : (c : ℕ) (y : ℤ) → c < b → IsDeviation p.game s a i c → t (reached p.game s a i c) (minus_axis i) ≡ At y → (gain p s a i c -ℤ y) <ℤ (gain p s a i b -ℤ x)

-- What asks most of a player's part is one row of the program: the next state's level in the direction of minus the axis, or else, where deviations ask for more, the first of those that ask the most.
abbrev pub IsProgramRow : Problem → Levels → ℕ → ℕ → Item → Type 0
IsProgramRow p t s a (items.Level k x times) =
    (i c : ℕ) (y : ℤ) → k ≡ minus_axis i → IsDeviation p.game s a i c → t (reached p.game s a i c) (minus_axis i) ≡ At y → (gain p s a i c -ℤ y) ≤ℤ neg_ℤ x
IsProgramRow p t s a (items.Gain i b x times) =
    IsGainRow p t s a i b x × ((w : ℤ) → t (successor p.game s a) (minus_axis i) ≡ At w → neg_ℤ w <ℤ (gain p s a i b -ℤ x))

-- a certificate of rows of the profile's program alone, with the levels of the table
pub record IsProgramCertificate (p : Problem) (t : Levels) (s a : ℕ) (list : List Item) : Type 0 where
  pub certificate : IsCertificate p (levels_of t) s a list
  pub program_rows : All (IsProgramRow p t s a) list

-- The first of three reasons that holds.
abbrev pub IsReasonOver : Problem → Levels → ℕ → ℕ → Reason → Type 0
IsReasonOver p t s a (reasons.Successor u) = (u ≡ successor p.game s a) × (IsKnown p t u → ⊥)
IsReasonOver p t s a (reasons.Deviation i b u) =
    IsKnown p t (successor p.game s a) × IsDeviation p.game s a i b × (u ≡ reached p.game s a i b) × (IsKnown p t u → ⊥)
    × ((j d : ℕ) → IsEarlier j d i b → IsDeviation p.game s a j d → IsKnown p t (reached p.game s a j d))
IsReasonOver p t s a (reasons.Farkas list) = AreKnown p t s a × IsProgramCertificate p t s a list

abbrev pub reason_at : List Reason → ℕ → Reason
reason_at list a = slice_index_or list a (reasons.Successor 0)

-- one right reason for each profile of the state, in profile order
pub record AreReasonsOver (p : Problem) (t : Levels) (s : ℕ) (list : List Reason) : Type 0 where
  pub one_each : length list ≡ profile_count (counts p.game s)
  pub each : (a : ℕ) → a < length list → IsReasonOver p t s a (reason_at list a)

pub record IsNoteOver (p : Problem) (t : Levels) (s : ℕ) (note : Note) : Type 0 where
  pub state : note.state ≡ s
  pub reasons : AreReasonsOver p t s note.reasons.list
