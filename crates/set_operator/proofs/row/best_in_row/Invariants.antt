use Rattle.level_table.specs.Levels.{levels_in}
use Rattle.set_operator.specs.Search.{IsEarliest, IsLargestSoFar}
use Rattle.set_operator.proofs.row.best_in_row.Given as goal

abbrev pub invariant-loop-a : goal.invariant-loop-a
invariant-loop-a l = record {
  largest : IsLargestSoFar l.fn.p (levels_in l.fn.levels) l.fn.row.state l.fn.row.dir l.a l.best;
  earliest : IsEarliest l.fn.p (levels_in l.fn.levels) l.fn.row.state l.fn.row.dir l.best;
}
