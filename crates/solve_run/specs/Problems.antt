-- The problem that settings make of a game.
use Rattle.std.specs.Prelude.{ℕ, ◌*◌, Option, Some, None}
use Rattle.direction_set.specs.DirectionTable.{DirectionTable, direction_vectors}
use Rattle.game_model.specs.Game.{DynamicGame, states}
use Rattle.level_table.specs.Problem.{Problem, direction_count, problem_of}
use Rattle.pay_words.specs.declared.options.Settings.{Settings}

-- how many directions: 16 where no word says it
abbrev pub direction_number : Option ℕ → ℕ
direction_number None = 16
direction_number (Some n) = n

-- the directions of two players
abbrev pub directions_of : Settings → DirectionTable
directions_of set = record { players = 2; vectors = direction_vectors 2 (direction_number set.directions) }

abbrev pub problem_in : DynamicGame → Settings → Problem
problem_in game set = problem_of game (directions_of set) set.grid

-- how many rows a table of the problem has
abbrev pub rows_in : Problem → ℕ
rows_in p = states p.game * direction_count p

abbrev pub row_count : DynamicGame → Settings → ℕ
row_count game set = rows_in (problem_in game set)
