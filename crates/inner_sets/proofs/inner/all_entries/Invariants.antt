use Rattle.std.proofs.Common.{◌≡◌, ℕ, ◌<◌, [], length, get_or}
use Rattle.inner_sets.specs.Built.{AreBuilt}
use Rattle.inner_sets.specs.Rows.{row_at}
use Rattle.inner_sets.proofs.inner.all_entries.Given as goal

abbrev pub invariant-loop-s : goal.invariant-loop-s
invariant-loop-s l = record {
  count : length l.entries ≡ l.s;
  each : (t : ℕ) → t < l.s → AreBuilt l.game l.n l.summaries t (row_at l.rows t) (get_or l.entries t []);
}
