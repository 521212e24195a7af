use Rattle.level_table.specs.Levels.{levels_in}
use Rattle.set_operator.specs.Asked.{IsSideBelow, ReachKnown}
use Rattle.set_operator.proofs.boxes.side_of.Given as goal

abbrev pub invariant-loop-b : goal.invariant-loop-b
invariant-loop-b l = record {
  side : IsSideBelow l.fn.p (levels_in l.fn.levels) l.fn.state l.fn.profile l.fn.i l.b l.side;
  known : ReachKnown l.fn.p (levels_in l.fn.levels) l.fn.state l.fn.profile l.fn.i l.b;
}
