-- Candidates: the points that an inner set may have. Parts are in units of 1/(denominator * n).
use Rattle.std.specs.Prelude.{◌≡◌, ◌⊎◌, ℕ, ◌<◌, ◌≤◌, ℤ, pos, ◌+ℤ◌, ◌-ℤ◌, ◌*ℤ◌, ◌≤ℤ◌, ◌<ℤ◌, List, length, AllPairs}
use Rattle.game_model.specs.Game.{DynamicGame, states, counts, profile_count, payoff_at}
use Rattle.game_model.specs.SelfGeneration.{part}

-- some profile of some state has this payoff of player i
abbrev pub IsPayoff : DynamicGame → ℕ → ℤ → Type 0
IsPayoff g i x = (s : ℕ) × (a : ℕ) × (s < states g) × (a < profile_count (counts g s)) × (payoff_at g s a i ≡ x)

-- the least and the largest payoff of player i, over all states and profiles
pub record IsRange (g : DynamicGame) (i : ℕ) (low high : ℤ) : Type 0 where
  pub low_reached : IsPayoff g i low
  pub high_reached : IsPayoff g i high
  pub between : (s a : ℕ) → s < states g → a < profile_count (counts g s) → (low ≤ℤ payoff_at g s a i) × (payoff_at g s a i ≤ℤ high)

-- one of the n + 1 numbers that divide the range of player i evenly
abbrev pub IsLatticePart : DynamicGame → ℕ → ℕ → ℤ → Type 0
IsLatticePart g n i x = (low : ℤ) × (high : ℤ) × (j : ℕ) × IsRange g i low high × (j ≤ n) × (x ≡ pos n *ℤ low +ℤ (high -ℤ low) *ℤ pos j)

abbrev pub IsLatticePoint : DynamicGame → ℕ → List ℤ → Type 0
IsLatticePoint g n v = IsLatticePart g n 0 (part v 0) × IsLatticePart g n 1 (part v 1)

-- the payoffs of a profile
abbrev pub IsStagePoint : DynamicGame → ℕ → ℕ → List ℤ → Type 0
IsStagePoint g n s v = (a : ℕ) × (a < profile_count (counts g s)) × (part v 0 ≡ pos n *ℤ payoff_at g s a 0) × (part v 1 ≡ pos n *ℤ payoff_at g s a 1)

abbrev pub IsCandidate : DynamicGame → ℕ → ℕ → List ℤ → Type 0
IsCandidate g n s v = (length v ≡ 2) × (IsStagePoint g n s v ⊎ IsLatticePoint g n v)

-- a smaller first part, or the same and a smaller second part
abbrev pub Precedes : List ℤ → List ℤ → Type 0
Precedes v w = (part v 0 <ℤ part w 0) ⊎ ((part v 0 ≡ part w 0) × (part v 1 <ℤ part w 1))

-- each point stands once, in order
abbrev pub IsAscending : List (List ℤ) → Type 0
IsAscending points = AllPairs Precedes points
