use Rattle.std.proofs.Common.{◌≡◌, ℕ, ◌<◌, false, length, slice_index_or}
use Rattle.std.specs.Prelude.{IsTrue, ◌↔◌}
use Rattle.level_table.specs.Levels.{levels_in}
use Rattle.level_table.specs.Reasons.{IsKnown}
use Rattle.set_operator.proofs.boxes.known_states.Given as goal

abbrev pub invariant-loop-s : goal.invariant-loop-s
invariant-loop-s l = record {
  count : length l.known ≡ 64;
  each : (s : ℕ) → s < l.s → (IsTrue (slice_index_or l.known s false) ↔ IsKnown l.fn.p (levels_in l.fn.levels) s);
}
