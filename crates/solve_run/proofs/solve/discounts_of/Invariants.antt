use Rattle.std.proofs.Common.{◌≡◌, ℕ, ◌<◌, length, All}
use Rattle.std.specs.Prelude.{slice_index}
use Rattle.report_text.specs.ReportText.{discount_at}
use Rattle.solve_run.proofs.solve.discounts_of.Given as goal

abbrev pub invariant-loop-i : goal.invariant-loop-i
invariant-loop-i l = record {
  count : length l.discounts ≡ l.i;
  each : (k : ℕ) → k < l.i → discount_at l.discounts k ≡ (slice_index l.game.discounts k, l.game.q);
  positive : All (λ d. 0 < d.1) l.discounts;
}
