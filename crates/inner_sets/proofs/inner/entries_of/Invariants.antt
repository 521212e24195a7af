use Rattle.std.proofs.Common.{◌≡◌, ℕ, ◌<◌, length, get_or}
use Rattle.game_model.specs.SelfGeneration.{no_entry}
use Rattle.inner_sets.specs.Built.{IsBuilt}
use Rattle.inner_sets.specs.Rows.{item_at}
use Rattle.inner_sets.proofs.inner.entries_of.Given as goal

abbrev pub invariant-loop-k : goal.invariant-loop-k
invariant-loop-k l = record {
  count : length l.entries ≡ l.k;
  each : (j : ℕ) → j < l.k → IsBuilt l.game l.n l.summaries l.s (item_at l.row j).profile (item_at l.row j).point (get_or l.entries j no_entry);
}
