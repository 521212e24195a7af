-- Why a state is empty: one reason for each profile.
use Rattle.std.specs.Prelude.{◌≡◌, ◌≢◌, ◌⊎◌, ℕ, ◌<◌, ◌≤◌, List, [], ◌∷◌, length, take, slice_index_or, All, ℤ, pos, ◌+ℤ◌, ◌-ℤ◌, ◌*ℤ◌, ◌≤ℤ◌, ◌<ℤ◌, neg_ℤ, if◌then◌else◌, ◌==◌}
use Rattle.level_table.specs.declared.level.Level.TheVariants.{At}
use Rattle.level_table.specs.declared.reason.Item.{Item}
use Rattle.level_table.specs.declared.reason.Item.TheVariants as items
use Rattle.level_table.specs.declared.reason.Note.{Note}
use Rattle.level_table.specs.declared.reason.Reason.{Reason}
use Rattle.level_table.specs.declared.reason.Reason.TheVariants as reasons
use Rattle.game_model.specs.Game.{DynamicGame, states, counts, profile_count, successor, reached, IsDeviation}
use Rattle.game_model.specs.SelfGeneration.{part, BoundsPoints}
use Rattle.level_table.specs.Problem.{Problem, direction_count, direction, unit, minus_axis, gain}
use Rattle.level_table.specs.Levels.{Levels}

-- The row of an item is coefficients * y ≤ right side. A level item is a half-plane of the next state, a gain item a deviation.
abbrev pub coefficient : Problem → Item → ℕ → ℤ
coefficient p (items.Level k x times) j = part (direction p k) j
coefficient p (items.Gain i b x times) j = if i == j then neg_ℤ (pos 1) else pos 0

abbrev pub right_side : Problem → ℕ → ℕ → Item → ℤ
right_side p s a (items.Level k x times) = x
right_side p s a (items.Gain i b x times) = x -ℤ gain p s a i b

abbrev pub multiplier : Item → ℤ
multiplier (items.Level k x times) = times
multiplier (items.Gain i b x times) = times

-- which levels may be kept: by state, direction and number
abbrev pub Keeps : Type 1
Keeps = ℕ → ℕ → ℤ → Type 0

-- the item is a row of the program of profile a, with a kept level
abbrev pub IsItem : Problem → Keeps → ℕ → ℕ → Item → Type 0
IsItem p keeps s a (items.Level k x times) = (k < direction_count p) × keeps (successor p.game s a) k x
IsItem p keeps s a (items.Gain i b x times) = IsDeviation p.game s a i b × keeps (reached p.game s a i b) (minus_axis i) x

-- the multiples of the coefficients of variable j, added up
abbrev pub added_coefficients : Problem → ℕ → List Item → ℤ
added_coefficients p j [] = pos 0
added_coefficients p j (item ∷ rest) = (multiplier item *ℤ coefficient p item j) +ℤ added_coefficients p j rest

abbrev pub added_right_sides : Problem → ℕ → ℕ → List Item → ℤ
added_right_sides p s a [] = pos 0
added_right_sides p s a (item ∷ rest) = (multiplier item *ℤ right_side p s a item) +ℤ added_right_sides p s a rest

-- A Farkas certificate that nothing is admissible after profile a: the rows add up to 0 ≤ a negative number.
pub record IsCertificate (p : Problem) (keeps : Keeps) (s a : ℕ) (list : List Item) : Type 0 where
  pub rows : (l : ℕ) → l < length list → IsItem p keeps s a (slice_index_or list l (items.Level 0 (pos 0) (pos 0)))
  pub nonnegative : All (λ item. pos 0 ≤ℤ multiplier item) list
  pub cancel : (j : ℕ) → j < p.game.players → added_coefficients p j list ≡ pos 0
  pub negative : added_right_sides p s a list <ℤ pos 0

abbrev pub no_note : Note
no_note = record { state = 0; reasons = record { list = []; spare = 0 } }

-- one of the notes is of state t
abbrev pub Named : List Note → ℕ → Type 0
Named notes t = (l : ℕ) × (l < length notes) × ((slice_index_or notes l no_note).state ≡ t)

-- no two notes are of one state
abbrev pub AreDistinct : List Note → Type 0
AreDistinct notes = (l m : ℕ) → l < m → m < length notes → (slice_index_or notes l no_note).state ≢ (slice_index_or notes m no_note).state

-- notes as they are kept, how many more can be added without memory, and for how many reasons the list has room that each of these leaves behind
pub record NoteList : Type 0 where
  pub list : List Note
  pub spare : ℕ
  pub each : ℕ

-- each state's reasons have room
abbrev pub HasRoomFor : DynamicGame → ℕ → Type 0
HasRoomFor g n = (s : ℕ) → s < states g → profile_count (counts g s) ≤ n

-- an earlier player, or an earlier strategy of the same
abbrev pub IsEarlier : ℕ → ℕ → ℕ → ℕ → Type 0
IsEarlier j d i b = (j < i) ⊎ ((j ≡ i) × (d < b))

-- The first of three reasons that holds: the profile leads to a named state, a deviation reaches one (the first that does), or a certificate.
abbrev pub IsReason : Problem → Keeps → List Note → ℕ → ℕ → Reason → Type 0
IsReason p keeps earlier s a (reasons.Successor t) = (t ≡ successor p.game s a) × Named earlier t
IsReason p keeps earlier s a (reasons.Deviation i b t) =
    (Named earlier (successor p.game s a) → ⊥) × IsDeviation p.game s a i b × (t ≡ reached p.game s a i b) × Named earlier t
    × ((j d : ℕ) → IsEarlier j d i b → IsDeviation p.game s a j d → Named earlier (reached p.game s a j d) → ⊥)
IsReason p keeps earlier s a (reasons.Farkas list) =
    (Named earlier (successor p.game s a) → ⊥) × ((j d : ℕ) → IsDeviation p.game s a j d → Named earlier (reached p.game s a j d) → ⊥) × IsCertificate p keeps s a list

-- A note beside the notes before it: a state that has none yet, and for each of its profiles in order a right reason.
pub record IsNote (p : Problem) (keeps : Keeps) (earlier : List Note) (note : Note) : Type 0 where
  pub known : note.state < states p.game
  pub new : Named earlier note.state → ⊥
  pub one_each : length note.reasons.list ≡ profile_count (counts p.game note.state)
  pub reasons : (a : ℕ) → a < length note.reasons.list → IsReason p keeps earlier note.state a (slice_index_or note.reasons.list a (reasons.Successor 0))

-- Each note is right beside those before it.
abbrev pub AreNotes : Problem → Keeps → List Note → Type 0
AreNotes p keeps notes = (l : ℕ) → l < length notes → IsNote p keeps (take l notes) (slice_index_or notes l no_note)

-- the levels of a table may be kept
abbrev pub levels_of : Levels → Keeps
levels_of t s k x = t s k ≡ At x

-- each level that bounds may be kept
abbrev pub bounding : Problem → Keeps
bounding p s k x = BoundsPoints p.game (unit p) s (direction p k) x
