-- The game that is made from a number.
use Rattle.std.specs.Prelude.{ℕ, zero, suc, ◌+◌, ◌*◌, ◌/◌, ◌%◌, ◌^◌, List, [], ◌∷◌, ◌++◌, ℤ, pos}
use Rattle.game_model.specs.Game.{DynamicGame}

-- the number behind a number, in a sequence of numbers below 2^31
abbrev pub number_behind : ℕ → ℕ
number_behind x = (1103515245 * x + 12345) % 2 ^ 31

-- number k of the sequence that begins with the seed
unfoldable pub number_after : ℕ → ℕ → ℕ
number_after seed zero = seed
number_after seed (suc k) = number_behind (number_after seed k)

-- draw k, the first of which is draw 1: the upper half of number k
abbrev pub draw : ℕ → ℕ → ℕ
draw seed k = number_after seed k / 65536

-- How many draws there are before profile a of state s: three for each profile, and sixteen profiles in a state.
abbrev pub drawn_before : ℕ → ℕ → ℕ
drawn_before s a = 3 * (16 * s + a)

-- the first two draws of a profile give the payoffs of players 0 and 1
abbrev pub payoff_drawn : ℕ → ℕ → ℕ → ℕ → ℕ
payoff_drawn seed s a i = draw seed (drawn_before s a + i + 1) % 16

-- the third gives the state that follows, one of so many
abbrev pub next_drawn : ℕ → ℕ → ℕ → ℕ → ℕ
next_drawn seed count s a = draw seed (drawn_before s a + 3) % count

-- f 0, .., f (n - 1)
unfoldable pub listed : {A : Type 0} → (ℕ → A) → ℕ → List A
listed f zero = []
listed f (suc n) = listed f n ++ f n ∷ []

-- the payoffs of a state, profile by profile: both players' at each
abbrev pub payoffs_drawn : ℕ → ℕ → List ℤ
payoffs_drawn seed s = listed (λ k. pos (payoff_drawn seed s (k / 2) (k % 2))) 32

-- the states that follow the profiles of a state
abbrev pub successors_drawn : ℕ → ℕ → ℕ → List ℕ
successors_drawn seed count s = listed (next_drawn seed count s) 16

-- Two players with four strategies each in so many states, whole payoffs from 0 to 15, and the discount factor 1/2.
abbrev pub generated_game : ℕ → ℕ → DynamicGame
generated_game seed count = record {
  players = 2;
  strategies = listed (λ s. 4 ∷ 4 ∷ []) count;
  payoffs = listed (payoffs_drawn seed) count;
  next = listed (successors_drawn seed count) count;
  denominator = pos 1;
  discounts = 1 ∷ 1 ∷ [];
  q = 2;
  base = 1;
}
