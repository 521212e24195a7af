use Rattle.std.proofs.Common.{◌≡◌, ℕ, ◌<◌, length}
use Rattle.inner_sets.specs.Rows.{points_in, row_at}
use Rattle.inner_sets.specs.Summaries.{IsSummary, summary_at}
use Rattle.inner_sets.proofs.summary.summaries_of.Given as goal

abbrev pub invariant-loop-row : goal.invariant-loop-row
invariant-loop-row l = record {
  count : length l.summaries.items ≡ l.row-index;
  each : (t : ℕ) → t < l.row-index → IsSummary l.game (points_in (row_at l.rows t)) (summary_at l.summaries.items t);
}
