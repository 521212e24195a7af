-- A discounted dynamic game with pure actions, a deterministic transition and perfect monitoring.
use Rattle.std.specs.Prelude.{◌≡◌, ◌≢◌, ℕ, ◌+◌, ◌*◌, ◌/◌, ◌%◌, ◌^◌, ◌<◌, ◌≤◌, List, [], ◌∷◌, length, slice_index, slice_index_or, slice_set, ℤ, pos, ◌*ℤ◌, ◌≤ℤ◌, neg_ℤ}

-- States, players, strategies and profiles are numbered from 0. A payoff is `payoffs` over `denominator`.
-- The discount factor of player `i` is `discounts` at `i` over `q`, and `base` is the least common multiple of these numerators.
pub record DynamicGame : Type 0 where
  pub players : ℕ
  -- for each state, each player's number of strategies
  pub strategies : List (List ℕ)
  -- for each state, profile by profile, the payoffs of all players
  pub payoffs : List (List ℤ)
  -- for each state, the state that follows each profile
  pub next : List (List ℕ)
  pub denominator : ℤ
  pub discounts : List ℕ
  pub q : ℕ
  pub base : ℕ

abbrev pub states : DynamicGame → ℕ
states g = length g.strategies

-- the numbers of strategies in a state
abbrev pub counts : DynamicGame → ℕ → List ℕ
counts g s = slice_index_or g.strategies s []

-- how many profiles there are with these numbers of strategies
abbrev pub profile_count : List ℕ → ℕ
profile_count [] = 1
profile_count (m ∷ ms) = m * profile_count ms

-- The number of a profile. The first player's strategy is the fastest: strategies x0, x1, x2 have the number x0 + m0 * (x1 + m1 * x2).
abbrev pub profile_number : List ℕ → List ℕ → ℕ
profile_number [] xs = 0
profile_number (m ∷ ms) [] = 0
profile_number (m ∷ ms) (x ∷ xs) = x + m * profile_number ms xs

-- the strategies of the profile with a number
abbrev pub strategies_of : List ℕ → ℕ → List ℕ
strategies_of [] a = []
strategies_of (m ∷ ms) a = a % m ∷ strategies_of ms (a / m)

-- one strategy for each player, each in range
abbrev pub IsProfile : List ℕ → List ℕ → Type 0
IsProfile ms xs = (length xs ≡ length ms) × ((i : ℕ) → i < length ms → slice_index xs i < slice_index ms i)

-- the payoff of player i in units of 1/denominator
abbrev pub payoff_at : DynamicGame → ℕ → ℕ → ℕ → ℤ
payoff_at g s a i = slice_index_or (slice_index_or g.payoffs s []) (a * g.players + i) (pos 0)

-- the state that follows a profile
abbrev pub successor : DynamicGame → ℕ → ℕ → ℕ
successor g s a = slice_index (slice_index_or g.next s []) a

-- the strategy of player i in the profile with a number
abbrev pub strategy_at : DynamicGame → ℕ → ℕ → ℕ → ℕ
strategy_at g s a i = slice_index (strategies_of (counts g s) a) i

-- the profile in which player i plays b instead
abbrev pub deviation_at : DynamicGame → ℕ → ℕ → ℕ → ℕ → ℕ
deviation_at g s a i b = profile_number (counts g s) (slice_set (strategies_of (counts g s) a) i b)

-- a player and a strategy other than the one that the profile has for the player
pub record IsDeviation (g : DynamicGame) (s a i b : ℕ) : Type 0 where
  pub player : i < g.players
  pub strategy : b < slice_index (counts g s) i
  pub other : b ≢ strategy_at g s a i

-- the state that a deviation reaches
abbrev pub reached : DynamicGame → ℕ → ℕ → ℕ → ℕ → ℕ
reached g s a i b = successor g s (deviation_at g s a i b)

-- a divides b
abbrev pub Divides : ℕ → ℕ → Type 0
Divides a b = (k : ℕ) × (b ≡ a * k)

-- a positive multiple of each number of the list, of which each other common multiple is a multiple
pub record IsLeastCommonMultiple (ps : List ℕ) (b : ℕ) : Type 0 where
  pub positive : 0 < b
  pub multiple : (i : ℕ) → i < length ps → Divides (slice_index ps i) b
  pub least : (c : ℕ) → ((i : ℕ) → i < length ps → Divides (slice_index ps i) c) → Divides b c

-- a state's lists have the right lengths, and each successor is a state
pub record IsState (g : DynamicGame) (s : ℕ) : Type 0 where
  pub one_each : length (counts g s) ≡ g.players
  pub some_strategy : (i : ℕ) → i < g.players → 1 ≤ slice_index (counts g s) i
  pub few_strategies : (i : ℕ) → i < g.players → slice_index (counts g s) i ≤ 16
  pub payoffs_fit : length (slice_index_or g.payoffs s []) ≡ profile_count (counts g s) * g.players
  pub next_fit : length (slice_index_or g.next s []) ≡ profile_count (counts g s)
  pub next_known : (a : ℕ) → a < profile_count (counts g s) → successor g s a < states g
  pub payoffs_small : (k : ℕ) → k < length (slice_index_or g.payoffs s []) → (neg_ℤ (pos (2 ^ 26)) ≤ℤ slice_index_or (slice_index_or g.payoffs s []) k (pos 0)) × (slice_index_or (slice_index_or g.payoffs s []) k (pos 0) ≤ℤ pos (2 ^ 26))

-- a game within the limits: two or three players, up to 64 states, up to 16 strategies of a player
pub record IsGame (g : DynamicGame) : Type 0 where
  pub two_players : 2 ≤ g.players
  pub three_players : g.players ≤ 3
  pub some_state : 1 ≤ states g
  pub few_states : states g ≤ 64
  pub payoffs_listed : length g.payoffs ≡ states g
  pub next_listed : length g.next ≡ states g
  pub each_state : (s : ℕ) → s < states g → IsState g s
  pub denominator_positive : pos 1 ≤ℤ g.denominator
  pub denominator_small : g.denominator ≤ℤ pos (2 ^ 40)
  pub discounts_listed : length g.discounts ≡ g.players
  pub discounts_positive : (i : ℕ) → i < g.players → 0 < slice_index g.discounts i
  pub discounts_below : (i : ℕ) → i < g.players → slice_index g.discounts i < g.q
  pub q_small : g.q ≤ 1024
  -- no number above 1 divides q and all numerators
  pub lowest : (d : ℕ) → Divides d g.q → ((i : ℕ) → i < g.players → Divides d (slice_index g.discounts i)) → d ≤ 1
  pub base_least : IsLeastCommonMultiple g.discounts g.base

-- The unit of a grid is 1/E with E = denominator * base * 2^grid.
abbrev pub unit_of : DynamicGame → ℕ → ℤ
unit_of g grid = g.denominator *ℤ pos (g.base * 2 ^ grid)
