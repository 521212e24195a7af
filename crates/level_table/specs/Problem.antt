-- A game with the directions and the grid in which its payoff sets are bounded.
use Rattle.std.specs.Prelude.{ℕ, zero, suc, ◌+◌, ◌-◌, ◌*◌, ◌/◌, ◌^◌, ◌<◌, ◌≤◌, List, [], length, slice_index, slice_index_or, ℤ, pos, ◌+ℤ◌, ◌-ℤ◌, ◌*ℤ◌}
use Rattle.std.specs.Int.{int_max}
use Rattle.direction_set.specs.DirectionTable.{DirectionTable, IsDirectionTable}
use Rattle.game_model.specs.Game.{DynamicGame, IsGame, states, counts, profile_count, payoff_at, deviation_at, unit_of}
use Rattle.game_model.specs.SelfGeneration.{part, sum_below}

-- Directions are vectors of whole numbers. The first are the axes: 2i is plus axis i, and 2i + 1 is minus axis i.
pub record Problem : Type 0 where
  pub game : DynamicGame
  pub directions : List (List ℤ)
  pub grid : ℕ

-- a game within its limits, a table of directions for its players, and a grid within its limit
pub record IsProblem (p : Problem) : Type 0 where
  pub game : IsGame p.game
  pub directions : IsDirectionTable p.game.players p.directions
  pub grid : p.grid ≤ 30

-- the problem of a game, a table of directions and a grid
abbrev pub problem_of : DynamicGame → DirectionTable → ℕ → Problem
problem_of g d grid = record { game = g; directions = d.vectors; grid = grid }

abbrev pub direction_count : Problem → ℕ
direction_count p = length p.directions

abbrev pub direction : Problem → ℕ → List ℤ
direction p k = slice_index_or p.directions k []

-- A level x of direction c says E * (c * v) ≤ x, with this E.
abbrev pub unit : Problem → ℤ
unit p = unit_of p.game p.grid

-- 2^grid
abbrev pub fineness : Problem → ℕ
fineness p = 2 ^ p.grid

-- player i's discount factor over q
abbrev pub discount_at : Problem → ℕ → ℕ
discount_at p i = slice_index p.game.discounts i

abbrev pub plus_axis : ℕ → ℕ
plus_axis i = 2 * i

abbrev pub minus_axis : ℕ → ℕ
minus_axis i = 2 * i + 1

-- the largest of f 0, .., f n
abbrev pub largest : (ℕ → ℤ) → ℕ → ℤ
largest f zero = f zero
largest f (suc n) = int_max (largest f n) (f (suc n))

-- the largest c times the payoff of player i, over all states and profiles
abbrev pub largest_payoff : DynamicGame → ℤ → ℕ → ℤ
largest_payoff g c i = largest (λ s. largest (λ a. c *ℤ payoff_at g s a i) (profile_count (counts g s) - 1)) (states g - 1)

-- The opening level of direction k, the same for all states: no payoff of the game is beyond it.
abbrev pub opening_level : Problem → ℕ → ℤ
opening_level p k = pos (p.game.base * fineness p) *ℤ sum_below (λ i. largest_payoff p.game (part (direction p k) i) i) p.game.players

-- What player i gains at once by playing b, in units of 1/E of the payoff that follows: (q - p_i) * (base / p_i) * 2^grid * (payoff of the deviation - payoff).
abbrev pub gain : Problem → ℕ → ℕ → ℕ → ℕ → ℤ
gain p s a i b = pos ((p.game.q - discount_at p i) * (p.game.base / discount_at p i) * fineness p) *ℤ (payoff_at p.game s (deviation_at p.game s a i b) i -ℤ payoff_at p.game s a i)
