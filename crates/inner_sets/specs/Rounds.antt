-- Between rounds: which states have to be looked at again.
use Rattle.std.specs.Prelude.{◌≡◌, Bool, true, false, ℕ, ◌<◌, List, length, slice_index_or}
use Rattle.game_model.specs.Game.{DynamicGame, states, counts, profile_count, successor}
use Rattle.inner_sets.specs.declared.item.Item.{Item}
use Rattle.inner_sets.specs.Rows.{points_in, row_at}
use Rattle.inner_sets.specs.Summaries.{PointSummary, IsSummary, summary_at}

-- all flags set
pub record AreAllSet (g : DynamicGame) (stale : List Bool) : Type 0 where
  pub one_each : length stale ≡ states g
  pub set : (s : ℕ) → s < states g → slice_index_or stale s false ≡ true

-- the row of the state has as many points as its summary
abbrev pub HasAll : List (List Item) → List PointSummary → ℕ → Type 0
HasAll rows summaries s = length (row_at rows s) ≡ length (summary_at summaries s).points

-- so in each state that some profile leads to
abbrev pub IsUnmoved : DynamicGame → List (List Item) → List PointSummary → ℕ → Type 0
IsUnmoved g rows summaries s = (a : ℕ) → a < profile_count (counts g s) → HasAll rows summaries (successor g s a)

pub record AreMarked (g : DynamicGame) (rows : List (List Item)) (summaries : List PointSummary) (stale : List Bool) : Type 0 where
  pub one_each : length stale ≡ states g
  pub unmoved : (s : ℕ) → s < states g → slice_index_or stale s false ≡ false → IsUnmoved g rows summaries s

-- Each summary is the old one where the row has as many points as it, and else that of the row.
pub record AreRenewed (g : DynamicGame) (rows : List (List Item)) (old new : List PointSummary) : Type 0 where
  pub same_length : length new ≡ length old
  pub kept : (s : ℕ) → s < states g → HasAll rows old s → summary_at new s ≡ summary_at old s
  pub made : (s : ℕ) → s < states g → (HasAll rows old s → ⊥) → IsSummary g (points_in (row_at rows s)) (summary_at new s)
