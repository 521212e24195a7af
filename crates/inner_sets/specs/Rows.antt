-- Rows: the points of a state that are left, each with the profile from which on it is tried.
use Rattle.std.specs.Prelude.{◌≡◌, ◌⊎◌, Bool, true, false, ℕ, ◌+◌, ◌<◌, ◌≤◌, ◌^◌, ℤ, List, [], length, map, filter, nat_lt, slice_index_or, unsigned_abs, All, AllPairs, Contains}
use Rattle.game_model.specs.Game.{DynamicGame, states, counts, profile_count}
use Rattle.game_model.specs.SelfGeneration.{part}
use Rattle.inner_sets.specs.declared.item.Item.{Item}
use Rattle.inner_sets.specs.Candidates.{IsCandidate, Precedes}
use Rattle.inner_sets.specs.Choice.{IsChoice, IsWithin, Meets}
use Rattle.inner_sets.specs.Summaries.{PointSummary, Passes}

abbrev pub points_in : List Item → List (List ℤ)
points_in items = map (λ (x : Item). x.point) items

abbrev pub choice_of : List (List Item) → List (List (List ℤ))
choice_of rows = map points_in rows

abbrev pub no_item : Item
no_item = record { point = []; profile = 0 }

abbrev pub item_at : List Item → ℕ → Item
item_at items k = slice_index_or items k no_item

abbrev pub row_at : List (List Item) → ℕ → List Item
row_at rows s = slice_index_or rows s []

-- few points, with parts of at most 2^30
pub record IsSmallRow (items : List Item) : Type 0 where
  pub few : length items ≤ 65535
  pub small : (k i : ℕ) → k < length items → i < 2 → unsigned_abs (part (item_at items k).point i) ≤ 2 ^ 30

-- An item that stands at profile a has moved on by one unless its point passes; another has not.
pub record IsTried (g : DynamicGame) (n : ℕ) (summaries : List PointSummary) (s a : ℕ) (old new : Item) : Type 0 where
  pub point : new.point ≡ old.point
  pub other : (old.profile ≡ a → ⊥) → new.profile ≡ old.profile
  pub here : old.profile ≡ a → (Passes g n summaries s a old.point × (new.profile ≡ a)) ⊎ ((Passes g n summaries s a old.point → ⊥) × (new.profile ≡ a + 1))

pub record AreTried (g : DynamicGame) (n : ℕ) (summaries : List PointSummary) (s a : ℕ) (old new : List Item) : Type 0 where
  pub same_length : length new ≡ length old
  pub each : (k : ℕ) → k < length old → IsTried g n summaries s a (item_at old k) (item_at new k)

-- An item has moved on to the next profile below m that its point passes, or past those below m.
pub record IsAdvanced (g : DynamicGame) (n : ℕ) (summaries : List PointSummary) (s m : ℕ) (old new : Item) : Type 0 where
  pub point : new.point ≡ old.point
  pub failed : (b : ℕ) → old.profile ≤ b → b < new.profile → Passes g n summaries s b old.point → ⊥
  pub passed : new.profile < m → Passes g n summaries s new.profile old.point

pub record AreAdvanced (g : DynamicGame) (n : ℕ) (summaries : List PointSummary) (s m : ℕ) (old new : List Item) : Type 0 where
  pub same_length : length new ≡ length old
  pub each : (k : ℕ) → k < length old → IsAdvanced g n summaries s m (item_at old k) (item_at new k)

-- the items that aren't past the last profile
abbrev pub alive : DynamicGame → ℕ → List Item → List Item
alive g s items = filter (λ (x : Item). nat_lt x.profile (profile_count (counts g s))) items

-- all items moved on, and those past the last profile taken away
abbrev pub IsRefined : DynamicGame → ℕ → List PointSummary → ℕ → List Item → List Item → Type 0
IsRefined g n summaries s old new = (moved : List Item) × AreAdvanced g n summaries s (profile_count (counts g s)) old moved × (new ≡ alive g s moved)

pub record AreRefined (g : DynamicGame) (n : ℕ) (summaries : List PointSummary) (old new : List (List Item)) : Type 0 where
  pub same_length : length new ≡ length old
  pub each : (s : ℕ) → s < states g → IsRefined g n summaries s (row_at old s) (row_at new s)

-- candidates of a state in order
pub record IsRow (g : DynamicGame) (n s : ℕ) (items : List Item) : Type 0 where
  pub ascending : AllPairs (λ (x y : Item). Precedes x.point y.point) items
  pub candidates : All (λ (x : Item). IsCandidate g n s x.point) items

-- a row of all candidates, each to be tried from the first profile on
pub record IsFullRow (g : DynamicGame) (n s : ℕ) (items : List Item) : Type 0 where
  pub row : IsRow g n s items
  pub all : (v : List ℤ) → IsCandidate g n s v → Contains (points_in items) v
  pub start : All (λ (x : Item). x.profile ≡ 0) items

-- What is left has all that any choice has, and no point passes a profile before its own.
pub record AreOpen (g : DynamicGame) (n : ℕ) (rows : List (List Item)) : Type 0 where
  pub one_each : length rows ≡ states g
  pub each : (s : ℕ) → s < states g → IsRow g n s (row_at rows s)
  pub enough : (other : List (List (List ℤ))) → IsChoice g n other → IsWithin other (choice_of rows)
  pub failed : (s : ℕ) → s < states g → All (λ (x : Item). (b : ℕ) → b < x.profile → Meets g n (choice_of rows) s b x.point → ⊥) (row_at rows s)

-- Each point that is left is given by its profile.
pub record AreSettled (g : DynamicGame) (n : ℕ) (rows : List (List Item)) : Type 0 where
  pub open_rows : AreOpen g n rows
  pub given : (s : ℕ) → s < states g → All (λ (x : Item). (x.profile < profile_count (counts g s)) × Meets g n (choice_of rows) s x.profile x.point) (row_at rows s)

-- Each point passes the profile that it has.
abbrev pub IsHeld : DynamicGame → ℕ → List PointSummary → ℕ → List Item → Type 0
IsHeld g n summaries s items = All (λ (x : Item). (x.profile < profile_count (counts g s)) × Passes g n summaries s x.profile x.point) items

-- so in each state whose flag isn't set
pub record AreHeld (g : DynamicGame) (n : ℕ) (summaries : List PointSummary) (stale : List Bool) (rows : List (List Item)) : Type 0 where
  pub one_flag_each : length stale ≡ states g
  pub held : (s : ℕ) → s < states g → slice_index_or stale s false ≡ false → IsHeld g n summaries s (row_at rows s)
