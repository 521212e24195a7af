-- Two states of one profile each. The first pays 2 to each player and leads to the second, which pays nothing and leads to itself.
use Rattle.std.specs.Prelude.{◌≡◌, ◌<◌, [], ◌∷◌, pos}
use Rattle.direction_set.specs.DirectionTable.{DirectionTable}
use Rattle.game_model.specs.Game.{DynamicGame}
use Rattle.level_table.specs.declared.level.Level.TheVariants.{At}
use Rattle.level_table.specs.Levels.{Table, level_at}
use Rattle.level_table.specs.Problem.{Problem}
use Rattle.level_table.specs.Worked.{axes}
use Rattle.schedule_core.specs.Frame.{Frame, rows_of}
use Rattle.level_board.specs.Board.{BoardId, PassView}

abbrev pub falling : DynamicGame
falling = record {
  players = 2;
  strategies = (1 ∷ 1 ∷ []) ∷ (1 ∷ 1 ∷ []) ∷ [];
  payoffs = (pos 2 ∷ pos 2 ∷ []) ∷ (pos 0 ∷ pos 0 ∷ []) ∷ [];
  next = (1 ∷ []) ∷ (1 ∷ []) ∷ [];
  denominator = pos 1;
  discounts = 1 ∷ 1 ∷ [];
  q = 2;
  base = 1;
}

abbrev pub falling_problem : Problem
falling_problem = record { game = falling; directions = axes; grid = 4 }

abbrev pub four_directions : DirectionTable
four_directions = record { players = 2; vectors = axes }

-- the frame is that of this game on the grid 4, and the second state's levels are those of the opening
pub record IsFresh (f : Frame) (t : Table) : Type 0 where
  pub problem : f.problem ≡ falling_problem
  pub start : f.start.directions ≡ 4
  pub directions : t.directions ≡ 4
  pub first_most : level_at t 4 ≡ At (pos 32)
  pub first_least : level_at t 5 ≡ At (pos 0)
  pub second_most : level_at t 6 ≡ At (pos 32)
  pub second_least : level_at t 7 ≡ At (pos 0)

-- the pass is of the board, which has the second state's first row, and it has seen the opening there
pub record IsReady (b : BoardId) (p : PassView) : Type 0 where
  pub board : p.board ≡ b
  pub row : 4 < rows_of b.frame
  pub fresh : IsFresh b.frame p.seen
