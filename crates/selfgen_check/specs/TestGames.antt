-- Games for tests, as their parts show them: a base that isn't known yet is 1.
use Rattle.std.specs.Prelude.{ℕ, [], ◌∷◌, pos}
use Rattle.game_model.specs.Game.{DynamicGame}
use Rattle.game_model.specs.Worked.{prisoners}

-- the prisoner's dilemma at discount factor p/q
abbrev pub dilemma : ℕ → ℕ → DynamicGame
dilemma p q = record (prisoners p q) { base = 1 }

-- Strategy 0 gives and strategy 1 doesn't: each player has 1, and 2 for each who gives, and who gives pays 3. The discount
-- factor is 1/2.
abbrev pub givers : DynamicGame
givers = record {
  players = 3;
  strategies = (2 ∷ 2 ∷ 2 ∷ []) ∷ [];
  payoffs = (pos 4 ∷ pos 4 ∷ pos 4 ∷ pos 5 ∷ pos 2 ∷ pos 2 ∷ pos 2 ∷ pos 5 ∷ pos 2 ∷ pos 3 ∷ pos 3 ∷ pos 0 ∷ pos 2 ∷ pos 2 ∷ pos 5 ∷ pos 3 ∷ pos 0 ∷ pos 3 ∷ pos 0 ∷ pos 3 ∷ pos 3 ∷ pos 1 ∷ pos 1 ∷ pos 1 ∷ []) ∷ [];
  next = (0 ∷ 0 ∷ 0 ∷ 0 ∷ 0 ∷ 0 ∷ 0 ∷ 0 ∷ []) ∷ [];
  denominator = pos 1;
  discounts = 1 ∷ 1 ∷ 1 ∷ [];
  q = 2;
  base = 1;
}
