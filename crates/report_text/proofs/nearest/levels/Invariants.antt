use Rattle.std.proofs.Common.{◌≡◌, ℕ, ◌*◌, List, ◌++◌, length, take, drop}
use Rattle.std.specs.Prelude.{All}
use Rattle.level_table.specs.declared.level.Level.{Level}
use Rattle.level_table.specs.Levels.{IsSmall}
use Rattle.report_text.specs.Reading.{levels_words}
use Rattle.report_text.proofs.nearest.levels.Given as goal

abbrev pub invariant-loop-row : goal.invariant-loop-row
invariant-loop-row l = record {
  states : l.levels.states ≡ l.fn.sizes.states;
  directions : l.levels.directions ≡ l.fn.sizes.directions;
  one_each : length l.levels.levels ≡ l.fn.sizes.states * l.fn.sizes.directions;
  small : All IsSmall l.levels.levels;
  read : (ls : List Level) (rest : List (List ℕ)) → length ls ≡ l.fn.sizes.states * l.fn.sizes.directions → All IsSmall ls → l.fn.words ≡ levels_words l.fn.sizes.directions 0 ls ++ rest
      → (take l.row l.levels.levels ≡ take l.row ls) × (l.words ≡ levels_words l.fn.sizes.directions l.row (drop l.row ls) ++ rest);
}
