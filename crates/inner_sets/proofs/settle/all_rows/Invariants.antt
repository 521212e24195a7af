use Rattle.std.proofs.Common.{◌≡◌, ℕ, ◌<◌, length}
use Rattle.inner_sets.specs.Rows.{IsFullRow, row_at}
use Rattle.inner_sets.proofs.settle.all_rows.Given as goal

abbrev pub invariant-loop-s : goal.invariant-loop-s
invariant-loop-s l = record {
  count : length l.rows.items ≡ l.s;
  each : (t : ℕ) → t < l.s → IsFullRow l.game l.n t (row_at l.rows.items t);
}
