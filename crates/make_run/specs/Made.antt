-- What a run of a game that is made from a number tells.
use Rattle.std.specs.Prelude.{◌≡◌, ℕ, List, ◌++◌, codes, decimal}
use Rattle.std.specs.Fmt.{signed_decimal}
use Rattle.case_maker.specs.Generated.{generated_game}
use Rattle.direction_set.specs.DirectionTable.{direction_vectors}
use Rattle.level_table.specs.Problem.{Problem, problem_of}
use Rattle.level_table.specs.Levels.{Levels, opening_table}
use Rattle.level_table.specs.Supported.{IsGreatest}
use Rattle.make_run.specs.Summary.{IsSummary}
use Rattle.make_run.specs.declared.made.Made.{Made}

-- The game of so many states that is made from the seed, in eight directions, with levels in sixteenths.
abbrev pub made_problem : ℕ → ℕ → Problem
made_problem seed count = problem_of (generated_game seed count) (record { players = 2; vectors = direction_vectors 2 8 }) 4

-- The numbers are those of the greatest supported table of that game.
pub record IsMade (seed count : ℕ) (m : Made) : Type 0 where
  pub seed_shown : m.seed ≡ seed
  pub states_shown : m.states ≡ count
  pub table : Levels
  pub greatest : IsGreatest (made_problem seed count) (opening_table (made_problem seed count)) table
  pub summary : IsSummary (made_problem seed count) table m

-- the text, each line of which ends with a line feed
abbrev pub made_text : Made → List ℕ
made_text m =
    codes "payoff make 1\nseed " ++ (decimal m.seed ++ (codes "\nstates " ++ (decimal m.states
    ++ (codes "\nempty " ++ (decimal m.empty ++ (codes "\nrows " ++ (decimal m.rows
    ++ (codes "\ntotal " ++ (signed_decimal m.total ++ codes "\nend\n")))))))))
