use Rattle.std.proofs.Common.{◌≡◌, length, take}
use Rattle.level_table.specs.Levels.{levels_in}
use Rattle.set_operator.specs.Program.{AreItemsOf}
use Rattle.set_operator.proofs.program.items_of.Given as goal

abbrev pub invariant-loop-i : goal.invariant-loop-i
invariant-loop-i l = record { items : AreItemsOf l.p (levels_in l.levels) l.found (take l.i l.multipliers) l.items; count : length l.items ≡ l.i }
