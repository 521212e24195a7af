use Rattle.std.proofs.Common.{◌≡◌, ℕ, ◌<◌, ◌≤◌, length, get_or, vec_capacity}
use Rattle.std.specs.Prelude.{None}
use Rattle.level_table.specs.Levels.{levels_in}
use Rattle.set_operator.specs.Prepared.{IsBoxAt}
use Rattle.set_operator.proofs.prepared.fill.Given as goal

abbrev pub invariant-loop-a : goal.invariant-loop-a
invariant-loop-a l = record {
  count : length l.boxes.items ≡ l.a;
  each : (b : ℕ) → b < l.a → IsBoxAt l.fn.p (levels_in l.fn.levels) l.fn.state b (get_or l.boxes.items b None);
  room : vec_capacity l.fn.boxes ≤ vec_capacity l.boxes;
}
