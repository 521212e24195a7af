use Rattle.std.proofs.Common.{◌≡◌, replicate}
use Rattle.level_table.specs.declared.level.Level.TheVariants.{Empty}
use Rattle.level_table.proofs.table.LevelTable.empty.Given as goal

abbrev pub invariant-loop : goal.invariant-loop
invariant-loop l = l.levels.items ≡ replicate l.counter Empty
