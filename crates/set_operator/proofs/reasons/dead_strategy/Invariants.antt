use Rattle.level_table.specs.Levels.{levels_in}
use Rattle.set_operator.specs.Asked.{ReachKnown}
use Rattle.set_operator.proofs.reasons.dead_strategy.Given as goal

abbrev pub invariant-loop-b : goal.invariant-loop-b
invariant-loop-b l = ReachKnown l.fn.p (levels_in l.fn.levels) l.fn.state l.fn.profile l.fn.i l.b
