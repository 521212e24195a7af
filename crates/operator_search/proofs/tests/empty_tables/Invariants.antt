use Rattle.level_table.specs.Problem.{problem_of}
use Rattle.level_table.specs.Tables.{HasSmallOpening, IsSmallTable}
use Rattle.operator_search.proofs.tests.empty_tables.Given as goal

abbrev pub invariant-loop : goal.invariant-loop
invariant-loop l = record {
  table : IsSmallTable (problem_of l.game l.dirs 2) l.levels;
  opening : HasSmallOpening (problem_of l.game l.dirs 2);
}
