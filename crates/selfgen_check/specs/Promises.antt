-- A correspondence over a common denominator, as a value of the program is seen.
use Rattle.std.specs.Prelude.{ℕ, ◌/◌, List, unsigned_abs}
use Rattle.game_model.specs.Game.{DynamicGame}
use Rattle.game_model.specs.SelfGeneration.{Entry, Correspondence}

-- The parts of all points are in units of 1/common.
pub record Promises : Type 0 where
  pub common : ℕ
  -- for each state, its entries
  pub entries : List (List Entry)

-- how many units of 1/common one unit of the payoffs is
abbrev pub scale_of : DynamicGame → Promises → ℕ
scale_of g c = c.common / unsigned_abs g.denominator

-- the correspondence of a game, whose points are in units of 1/(scale * denominator)
abbrev pub correspondence_of : DynamicGame → Promises → Correspondence
correspondence_of g c = record { scale = scale_of g c; entries = c.entries }
