use Rattle.std.proofs.Common.{◌≡◌, ℕ, ◌<◌}
use Rattle.level_table.specs.declared.level.Level.TheVariants.{Empty}
use Rattle.level_table.specs.Levels.{levels_in}
use Rattle.report_text.proofs.noted.is_empty.Given as goal

abbrev pub invariant-loop-dir : goal.invariant-loop-dir
invariant-loop-dir l = (k : ℕ) → k < l.dir → levels_in l.levels l.state k ≡ Empty
