-- Multipliers of rows that prove a bound, or that nothing meets the rows.
use Rattle.std.specs.Prelude.{◌≡◌, ℕ, ◌^◌, ◌<◌, ◌≤◌, ℤ, pos, ◌*ℤ◌, ◌<ℤ◌, ◌≤ℤ◌, List, length, All}
use Rattle.std.specs.Int.RustNames.{unsigned_abs}
use Rattle.exact_algebra.specs.Sums.{total_by}
use Rattle.lp_cert.specs.Program.{Program, entry, row_at}

-- the sums of the multiples of the rows
abbrev pub entry_sum : Program → List (ℕ × ℤ) → ℕ → ℤ
entry_sum p items k = total_by (λ item. item.1 *ℤ entry (row_at p item.0).c k) items

abbrev pub side_sum : Program → List (ℕ × ℤ) → ℤ
side_sum p items = total_by (λ item. item.1 *ℤ (row_at p item.0).h) items

-- rows that exist, with multipliers that aren't negative
pub record AreWeights (p : Program) (items : List (ℕ × ℤ)) : Type 0 where
  pub rows : All (λ item. item.0 < length p.rows) items
  pub not_negative : All (λ item. pos 0 ≤ℤ item.1) items

-- the multiples of the rows add up to den times the objective, and their sides to at most num
pub record ProvesBound (p : Program) (objective : List ℤ) (items : List (ℕ × ℤ)) (num den : ℤ) : Type 0 where
  pub positive : pos 0 <ℤ den
  pub weights : AreWeights p items
  pub entries : (k : ℕ) → k < 3 → entry_sum p items k ≡ den *ℤ entry objective k
  pub side : side_sum p items ≤ℤ num

-- the multiples of the rows add up to zero, and their sides to less than zero
pub record ProvesEmpty (p : Program) (items : List (ℕ × ℤ)) : Type 0 where
  pub weights : AreWeights p items
  pub entries : (k : ℕ) → k < 3 → entry_sum p items k ≡ pos 0
  pub side : side_sum p items <ℤ pos 0

-- each multiplier is at most 2^20 in absolute value
abbrev pub AreSmall : List (ℕ × ℤ) → Type 0
AreSmall items = All (λ item. unsigned_abs item.1 ≤ 2 ^ 20) items
