-- Games of one state that leads to itself, in which each player has two strategies and payoffs are small whole numbers.
use Rattle.std.specs.Prelude.{ℕ, ◌<◌, ◌≤◌, List, [], ◌∷◌, All, ℤ, pos, replicate, take}
use Rattle.std.specs.Int.RustNames.{unsigned_abs}
use Rattle.game_model.specs.Game.{DynamicGame}

-- the first player's discount factor is 1/q, the second's and the third's are `second` and `third` over q
abbrev pub small_game : ℕ → ℕ → ℕ → ℕ → ℕ → List ℤ → DynamicGame
small_game players profiles second third q payoffs = record {
  players = players;
  strategies = replicate players 2 ∷ [];
  payoffs = payoffs ∷ [];
  next = replicate profiles 0 ∷ [];
  denominator = pos 1;
  discounts = take players (1 ∷ second ∷ third ∷ []);
  q = q;
  base = 1;
}

-- the numbers are within the limits of a game
pub record AreSmall (players second third q : ℕ) (payoffs : List ℤ) : Type 0 where
  pub two_players : 2 ≤ players
  pub three_players : players ≤ 3
  pub second_positive : 0 < second
  pub second_below : second < q
  pub third_positive : 0 < third
  pub third_below : third < q
  pub q_small : q ≤ 1024
  pub payoffs_small : All (λ u. unsigned_abs u ≤ 5) payoffs
