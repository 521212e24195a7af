use Rattle.std.proofs.Common.{ℕ, ◌<◌}
use Rattle.level_table.specs.Levels.{levels_in, IsNumber}
use Rattle.level_table.proofs.table.LevelTable.is_known.Given as goal

abbrev pub invariant-loop-dir : goal.invariant-loop-dir
invariant-loop-dir l = (k : ℕ) → k < l.dir → IsNumber (levels_in l.fn.self l.fn.state k)
