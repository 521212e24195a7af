-- What is added to a list of points, and ranges of payoffs as far as they are known.
use Rattle.std.specs.Prelude.{◌≡◌, ◌⊎◌, ℕ, ◌+◌, ◌<◌, ◌≤◌, ℤ, pos, ◌+ℤ◌, ◌-ℤ◌, ◌*ℤ◌, ◌≤ℤ◌, List, length, Contains}
use Rattle.game_model.specs.Game.{DynamicGame, counts, profile_count, payoff_at}
use Rattle.game_model.specs.SelfGeneration.{part}
use Rattle.inner_sets.specs.Candidates.{IsPayoff}

-- the points with a property, at most so many, are added
pub record Adds (most : ℕ) (P : List ℤ → Type 0) (old new : List (List ℤ)) : Type 0 where
  pub kept : (v : List ℤ) → Contains old v → Contains new v
  pub added : (v : List ℤ) → length v ≡ 2 → P v → Contains new v
  pub only : (v : List ℤ) → Contains new v → Contains old v ⊎ ((length v ≡ 2) × P v)
  pub few : length new ≤ length old + most

-- the payoffs of one of the first m profiles
abbrev pub IsStagePointBelow : DynamicGame → ℕ → ℕ → ℕ → List ℤ → Type 0
IsStagePointBelow g n s m v = (a : ℕ) × (a < m) × (part v 0 ≡ pos n *ℤ payoff_at g s a 0) × (part v 1 ≡ pos n *ℤ payoff_at g s a 1)

-- step j of n from the low end to the high end
abbrev pub step_of : ℕ → ℤ → ℤ → ℕ → ℤ
step_of n low high j = pos n *ℤ low +ℤ (high -ℤ low) *ℤ pos j

-- points with this first part and one of the first m steps as the second
abbrev pub IsColumnBelow : ℕ → ℤ → ℤ → ℤ → ℕ → List ℤ → Type 0
IsColumnBelow n first low high m v = (part v 0 ≡ first) × ((j : ℕ) × (j < m) × (part v 1 ≡ step_of n low high j))

-- points with one of the first m steps as the first part and any of n + 1 as the second
abbrev pub IsGridBelow : ℕ → ℤ → ℤ → ℤ → ℤ → ℕ → List ℤ → Type 0
IsGridBelow n low high low_second high_second m v =
    ((j : ℕ) × (j < m) × (part v 0 ≡ step_of n low high j)) × ((j : ℕ) × (j < n + 1) × (part v 1 ≡ step_of n low_second high_second j))

-- the range of the payoffs at the first m profiles of a state
pub record IsStateRange (g : DynamicGame) (s m i : ℕ) (low high : ℤ) : Type 0 where
  pub low_reached : (a : ℕ) × (a < profile_count (counts g s)) × (payoff_at g s a i ≡ low)
  pub high_reached : (a : ℕ) × (a < profile_count (counts g s)) × (payoff_at g s a i ≡ high)
  pub between : (a : ℕ) → a < m → (low ≤ℤ payoff_at g s a i) × (payoff_at g s a i ≤ℤ high)

-- the range of the payoffs in the first m states
pub record IsRangeBelow (g : DynamicGame) (m i : ℕ) (low high : ℤ) : Type 0 where
  pub low_reached : IsPayoff g i low
  pub high_reached : IsPayoff g i high
  pub between : (s a : ℕ) → s < m → a < profile_count (counts g s) → (low ≤ℤ payoff_at g s a i) × (payoff_at g s a i ≤ℤ high)
