use Rattle.std.proofs.Common.{ℕ, ◌≡◌, ◌≢◌, ◌<◌}
use Rattle.level_table.specs.declared.level.Level.TheVariants.{Empty}
use Rattle.level_table.specs.Levels.{levels_in}
use Rattle.level_table.specs.Tables.{IsWhole}
use Rattle.level_table.proofs.table.LevelTable.clear_state.Given as goal

abbrev pub invariant-loop-dir : goal.invariant-loop-dir
invariant-loop-dir l = record {
  whole : IsWhole l.self;
  states : l.self.states ≡ l.fn.self.states;
  directions : l.self.directions ≡ l.fn.self.directions;
  cleared : (j : ℕ) → j < l.dir → levels_in l.self l.fn.state j ≡ Empty;
  others : (t j : ℕ) → t ≢ l.fn.state → j < l.fn.self.directions → levels_in l.self t j ≡ levels_in l.fn.self t j;
}
