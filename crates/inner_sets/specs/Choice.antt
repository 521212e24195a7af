-- Choices: a list of candidates for each state. Parts of points are in units of 1/(denominator * n).
use Rattle.std.specs.Prelude.{◌≡◌, ℕ, ◌-◌, ◌*◌, ◌<◌, ℤ, pos, ◌+ℤ◌, ◌-ℤ◌, ◌*ℤ◌, ◌≤ℤ◌, ◌<ℤ◌, List, [], ◌∷◌, length, map, slice_index, slice_index_or, All, Contains}
use Rattle.game_model.specs.Game.{DynamicGame, states, counts, profile_count, payoff_at, successor, IsDeviation, deviation_at, reached}
use Rattle.game_model.specs.SelfGeneration.{part}
use Rattle.hull_weights.specs.Hull.{IsInHull, point_at}
use Rattle.inner_sets.specs.Candidates.{IsCandidate, IsAscending}

-- the list of a state
abbrev pub sublist : List (List (List ℤ)) → ℕ → List (List ℤ)
sublist choice s = slice_index_or choice s []

-- the numerator of the discount factor of player i
abbrev pub discount : DynamicGame → ℕ → ℕ
discount g i = slice_index g.discounts i

-- (1 - d_i) * payoff, times q
abbrev pub payoff_share : DynamicGame → ℕ → ℕ → ℕ → ℕ → ℤ
payoff_share g n s a i = pos ((g.q - discount g i) * n) *ℤ payoff_at g s a i

-- part i of a point that follows is d_i times its own, times q
abbrev pub discounted : DynamicGame → List ℤ → List ℤ
discounted g v = (pos (discount g 0) *ℤ part v 0) ∷ (pos (discount g 1) *ℤ part v 1) ∷ []

-- what a point leaves to those that follow: v_i - (1 - d_i) * payoff, times q
abbrev pub remainder : DynamicGame → ℕ → ℕ → ℕ → List ℤ → List ℤ
remainder g n s a v = (pos g.q *ℤ part v 0 -ℤ payoff_share g n s a 0) ∷ (pos g.q *ℤ part v 1 -ℤ payoff_share g n s a 1) ∷ []

-- the remainder is an average of the next state's points
abbrev pub HasContinuation : DynamicGame → ℕ → List (List (List ℤ)) → ℕ → ℕ → List ℤ → Type 0
HasContinuation g n choice s a v = IsInHull (map (discounted g) (sublist choice (successor g s a))) (remainder g n s a v)

-- player i doesn't gain where this point follows profile b: v_i is at least (1 - d_i) * payoff + d_i * w_i
abbrev pub Deters : DynamicGame → ℕ → ℕ → ℕ → ℕ → List ℤ → ℤ → Type 0
Deters g n s b i v w = (payoff_share g n s b i +ℤ pos (discount g i) *ℤ w) ≤ℤ (pos g.q *ℤ part v i)

-- some point of the state that the deviation reaches deters it
abbrev pub IsDeterred : DynamicGame → ℕ → List (List (List ℤ)) → ℕ → ℕ → List ℤ → ℕ → ℕ → Type 0
IsDeterred g n choice s a v i b = (k : ℕ) × (k < length (sublist choice (reached g s a i b))) × Deters g n s (deviation_at g s a i b) i v (part (point_at (sublist choice (reached g s a i b)) k) i)

-- profile a gives the point of state s: by an average of points that follow, and no deviation gains
pub record Meets (g : DynamicGame) (n : ℕ) (choice : List (List (List ℤ))) (s a : ℕ) (v : List ℤ) : Type 0 where
  pub continuation : HasContinuation g n choice s a v
  pub deterred : (i b : ℕ) → IsDeviation g s a i b → IsDeterred g n choice s a v i b

-- some profile gives the point
abbrev pub IsGiven : DynamicGame → ℕ → List (List (List ℤ)) → ℕ → List ℤ → Type 0
IsGiven g n choice s v = (a : ℕ) × (a < profile_count (counts g s)) × Meets g n choice s a v

-- for each state candidates in order, each given by some profile under the choice itself
pub record IsChoice (g : DynamicGame) (n : ℕ) (choice : List (List (List ℤ))) : Type 0 where
  pub one_list_each : length choice ≡ states g
  pub ascending : (s : ℕ) → s < states g → IsAscending (sublist choice s)
  pub candidates : (s : ℕ) → s < states g → All (IsCandidate g n s) (sublist choice s)
  pub given : (s : ℕ) → s < states g → All (IsGiven g n choice s) (sublist choice s)

-- each point of the one is a point of the other, in the same state
abbrev pub IsWithin : List (List (List ℤ)) → List (List (List ℤ)) → Type 0
IsWithin choice other = (s : ℕ) (v : List ℤ) → Contains (sublist choice s) v → Contains (sublist other s) v

-- the largest choice: each other is within it
pub record IsLargestChoice (g : DynamicGame) (n : ℕ) (choice : List (List (List ℤ))) : Type 0 where
  pub is_choice : IsChoice g n choice
  pub largest : (other : List (List (List ℤ))) → IsChoice g n other → IsWithin other choice

-- the first profile that gives the point
pub record IsFirstProfile (g : DynamicGame) (n : ℕ) (choice : List (List (List ℤ))) (s : ℕ) (v : List ℤ) (a : ℕ) : Type 0 where
  pub known : a < profile_count (counts g s)
  pub meets : Meets g n choice s a v
  pub none_before : (b : ℕ) → b < a → Meets g n choice s b v → ⊥

-- the first of the first m points whose part i is least
pub record IsFirstLeastBelow (i : ℕ) (points : List (List ℤ)) (m k : ℕ) : Type 0 where
  pub known : k < m
  pub least : (j : ℕ) → j < m → part (point_at points k) i ≤ℤ part (point_at points j) i
  pub first : (j : ℕ) → j < k → part (point_at points k) i <ℤ part (point_at points j) i

-- the first point whose part i is least
abbrev pub IsFirstLeast : ℕ → List (List ℤ) → ℕ → Type 0
IsFirstLeast i points k = IsFirstLeastBelow i points (length points) k
