use Rattle.std.proofs.Common.{◌≡◌, ℕ, ◌<◌, ◌*◌}
use Rattle.report_text.specs.ReportText.{discount_at}
use Rattle.report_text.proofs.text.all_equal.Given as goal

abbrev pub invariant-loop-i : goal.invariant-loop-i
invariant-loop-i l = (k : ℕ) → k < l.i → (discount_at l.discounts k).0 * (discount_at l.discounts 0).1 ≡ (discount_at l.discounts 0).0 * (discount_at l.discounts k).1
