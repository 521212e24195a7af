use Rattle.level_table.specs.Levels.{levels_in}
use Rattle.set_operator.specs.Search.{IsLargestSoFar}
use Rattle.set_operator.proofs.search.leader.Given as goal

abbrev pub invariant-loop-a : goal.invariant-loop-a
invariant-loop-a l = IsLargestSoFar l.fn.p (levels_in l.fn.levels) l.fn.row.state l.fn.row.dir l.a l.best
