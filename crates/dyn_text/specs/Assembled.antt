-- The game that a transition file makes of the games of its states.
use Rattle.std.specs.Prelude.{◌≡◌, ℕ, ◌/◌, ◌≤◌, List, [], ◌∷◌, length, map, ℤ, pos, ◌*ℤ◌, ◌<ℤ◌}
use Rattle.std.specs.List.{All, flat_map}
use Rattle.std.specs.Int.RustNames.{unsigned_abs}
use Rattle.pay_frac.specs.Ratio.{Ratio, IsLowest}
use Rattle.nfg_text.specs.declared.nfg.Nfg.{Nfg}
use Rattle.nfg_text.specs.Grammar.{counts_of}
use Rattle.nfg_text.specs.ReadGame.{IsReadGame}
use Rattle.game_model.specs.Game.{DynamicGame}
use Rattle.dyn_text.specs.declared.transitions.Dyn.{Dyn}

-- a game as it is read for each state, and 1 to 64 states
pub record AreTexts (d : Dyn) (games : List Nfg) : Type 0 where
  pub one_each : length games ≡ length d.states
  pub some_state : 1 ≤ length games
  pub few_states : length games ≤ 64
  pub read : All IsReadGame games

-- a fraction in lowest terms between 0 and 1
pub record IsDiscount (r : Ratio) : Type 0 where
  pub lowest : IsLowest r
  pub positive : pos 0 <ℤ r.num
  pub below : r.num <ℤ r.den

-- all payoffs, in order of state, profile and player
abbrev pub payoffs_in : List Nfg → List Ratio
payoffs_in games = flat_map (λ n. n.payoffs) games

abbrev pub denominators_of : Nfg → List ℕ
denominators_of n = map (λ r. unsigned_abs r.den) n.payoffs

-- their denominators
abbrev pub denominators_in : List Nfg → List ℕ
denominators_in games = flat_map denominators_of games

-- a payoff over 1/unit, where its denominator divides the unit
abbrev pub units : ℕ → Ratio → ℤ
units unit r = r.num *ℤ pos (unit / unsigned_abs r.den)

-- The payoffs over 1/unit, the counts of each file, the lists of the transition file, and one discount for both players.
abbrev pub game_of_texts : Dyn → List Nfg → Ratio → ℕ → DynamicGame
game_of_texts d games discount unit = record {
  players = 2;
  strategies = map (λ n. counts_of n.strategies) games;
  payoffs = map (λ n. map (units unit) n.payoffs) games;
  next = map (λ s. s.next) d.states;
  denominator = pos unit;
  discounts = unsigned_abs discount.num ∷ unsigned_abs discount.num ∷ [];
  q = unsigned_abs discount.den;
  base = unsigned_abs discount.num;
}

-- Lists as a game of which a shape is asked: how many payoffs there are, and no unit or discount.
abbrev pub shape_of_lists : List (List ℕ) → List Nfg → List (List ℕ) → DynamicGame
shape_of_lists strategies games next = record {
  players = 2;
  strategies = strategies;
  payoffs = map (λ n. map (λ r. r.num) n.payoffs) games;
  next = next;
  denominator = pos 1;
  discounts = [];
  q = 1;
  base = 1;
}

abbrev pub shape_of_texts : Dyn → List Nfg → DynamicGame
shape_of_texts d games = shape_of_lists (map (λ n. counts_of n.strategies) games) games (map (λ s. s.next) d.states)

-- lists and numbers as a game whose base nobody asks for
abbrev pub game_of_lists : List (List ℕ) → List (List ℤ) → List (List ℕ) → ℕ → ℕ → ℕ → DynamicGame
game_of_lists strategies payoffs next unit p q = record {
  players = 2;
  strategies = strategies;
  payoffs = payoffs;
  next = next;
  denominator = pos unit;
  discounts = p ∷ p ∷ [];
  q = q;
  base = 1;
}
