use Rattle.level_table.specs.Levels.{levels_in}
use Rattle.set_operator.specs.Lines.{IsLineBelow}
use Rattle.set_operator.proofs.lines.line_of.Given as goal

abbrev pub invariant-loop-b : goal.invariant-loop-b
invariant-loop-b l = IsLineBelow l.fn.p (levels_in l.fn.levels) l.fn.by.state l.fn.first l.fn.by.player l.b l.line
