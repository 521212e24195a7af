use Rattle.std.proofs.Common.{◌≡◌, ℕ, List, ◌∷◌, ◌++◌, length, pos, ◌≤ℤ◌}
use Rattle.std.specs.Prelude.{All, codes}
use Rattle.std.specs.Int.{◌∣◌}
use Rattle.std.specs.Int.RustNames.{unsigned_abs}
use Rattle.report_text.specs.ReportText.{AreDiscountWords}
use Rattle.report_text.specs.Rules.{AreDiscounts, IsDiscount}
use Rattle.report_text.proofs.Discounts.{ReadDiscounts}
use Rattle.report_text.proofs.nearest.discounts.Given as goal

abbrev pub invariant-loop-kept : goal.invariant-loop-kept
invariant-loop-kept l = record {
  count : length l.discounts ≡ l._kept;
  each : All IsDiscount l.discounts;
  last : IsDiscount l.last;
  common : (pos 1 ≤ℤ l.common) × (l.common ≤ℤ pos 1024);
  divides : l.last.1 ∣ unsigned_abs l.common;
  multiple : All (λ d. d.1 ∣ unsigned_abs l.common) l.discounts;
  read : (ds : List (ℕ × ℕ)) (shown rest : List (List ℕ)) → AreDiscounts l.players ds → AreDiscountWords ds shown → l.fn.words ≡ codes "discount" ∷ (shown ++ codes "unit" ∷ rest)
      → ReadDiscounts l.players ds shown rest l._kept l.discounts l.last l.common l.words;
}
