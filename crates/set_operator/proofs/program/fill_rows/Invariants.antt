use Rattle.level_table.specs.Levels.{levels_in}
use Rattle.set_operator.specs.Program.{IsProgramTo}
use Rattle.set_operator.proofs.program.fill_rows.Given as goal

abbrev pub invariant-loop-dir : goal.invariant-loop-dir
invariant-loop-dir l = IsProgramTo l.p (levels_in l.levels) l.found l.dir l.rows
