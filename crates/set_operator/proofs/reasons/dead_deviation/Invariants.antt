use Rattle.level_table.specs.Levels.{levels_in}
use Rattle.set_operator.specs.Asked.{AllReachKnown}
use Rattle.set_operator.proofs.reasons.dead_deviation.Given as goal

abbrev pub invariant-loop-i : goal.invariant-loop-i
invariant-loop-i l = AllReachKnown l.fn.p (levels_in l.fn.levels) l.fn.state l.fn.profile l.i
