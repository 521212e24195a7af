use Rattle.std.proofs.Common.{◌≡◌, ℕ, ◌%◌, ◌<◌, length, get_or, pos}
use Rattle.level_table.specs.declared.level.Level.TheVariants.{Empty, At}
use Rattle.level_table.proofs.table.LevelTable.uniform.Given as goal

abbrev pub invariant-loop-row : goal.invariant-loop-row
invariant-loop-row l = record {
  count : length l.levels.items ≡ l.row;
  levels : (row : ℕ) → row < l.row → get_or l.levels.items row Empty ≡ At (get_or l.each (row % l.directions) (pos 0));
}
