-- Worked examples: two small games with the four axis directions.
use Rattle.std.specs.Prelude.{ℕ, List, [], ◌∷◌, ℤ, pos, neg_ℤ, map}
use Rattle.game_model.specs.Game.{DynamicGame}
use Rattle.game_model.specs.Worked.{prisoners}
use Rattle.level_table.specs.Problem.{Problem, opening_level}
use Rattle.level_table.specs.Operator.{Fractions}

abbrev pub axes : List (List ℤ)
axes = (pos 1 ∷ pos 0 ∷ pos 0 ∷ []) ∷ (neg_ℤ (pos 1) ∷ pos 0 ∷ pos 0 ∷ []) ∷ (pos 0 ∷ pos 1 ∷ pos 0 ∷ []) ∷ (pos 0 ∷ neg_ℤ (pos 1) ∷ pos 0 ∷ []) ∷ []

-- One state, one profile, payoffs 1 and 2, discount factor 1/2. In Gambit's form: NFG 1 R "one" { "A" "B" } { 1 1 } 1 2
abbrev pub one_profile : DynamicGame
one_profile = record {
  players = 2;
  strategies = (1 ∷ 1 ∷ []) ∷ [];
  payoffs = (pos 1 ∷ pos 2 ∷ []) ∷ [];
  next = (0 ∷ []) ∷ [];
  denominator = pos 1;
  discounts = 1 ∷ 1 ∷ [];
  q = 2;
  base = 1;
}

abbrev pub one_problem : Problem
one_problem = record { game = one_profile; directions = axes; grid = 0 }

-- the prisoner's dilemma at discount factor 1/2, in units of 1/16
abbrev pub prisoners_problem : Problem
prisoners_problem = record { game = prisoners 1 2; directions = axes; grid = 4 }

-- one profile in which the first player gets so much and the second nothing, in units of 1/2^30
abbrev pub large_problem : ℕ → Problem
large_problem x = record { game = record one_profile { payoffs = (pos x ∷ pos 0 ∷ []) ∷ [] }; directions = axes; grid = 30 }

-- the opening levels of the four directions
abbrev pub four_openings : Problem → List ℤ
four_openings p = map (opening_level p) (0 ∷ 1 ∷ 2 ∷ 3 ∷ [])

-- a vector of whole numbers
abbrev pub whole : ℤ → ℤ → Fractions
whole x y = record { numerators = x ∷ y ∷ []; denominator = pos 1 }
