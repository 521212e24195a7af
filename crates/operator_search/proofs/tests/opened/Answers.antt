use Rattle.std.proofs.Common.{ℕ, subst, lit≤}
use Rattle.direction_set.specs.DirectionTable.{IsDirectionTable}
use Rattle.level_table.specs.Problem.{problem_of}
use Rattle.level_table.proofs.Numbers.{small_opening}
use Rattle.operator_search.proofs.tests.opened.Goals as goal

pub returns-clause-opening : goal.returns-clause-opening
returns-clause-opening c = small_opening (problem_of c.args.game.now c.args.dirs.now 2) c.in_ok-table.table (record {
  game = c.players.ensures.is_game;
  directions = subst (λ (m : ℕ). IsDirectionTable m c.args.dirs.now.vectors) c.requires c.rules.ensures.rules;
  grid = lit≤ tt;
}) ((c.in_ok-table.ensures {u = tt}).opened)
