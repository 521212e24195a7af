use Rattle.std.proofs.Common.{ℕ, ◌<◌, get_or}
use Rattle.level_table.specs.declared.level.Level.TheVariants.{Empty}
use Rattle.level_table.specs.Levels.{AtMost}
use Rattle.level_table.proofs.table.below.Given as goal

abbrev pub invariant-loop-row : goal.invariant-loop-row
invariant-loop-row l = (row : ℕ) → row < l.row → AtMost (get_or l.a-inside.levels.items row Empty) (get_or l.b-inside.levels.items row Empty)
