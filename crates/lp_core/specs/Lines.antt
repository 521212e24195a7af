-- Rows in the variables that are left, and what points and multipliers say of them. Row numbers are places in the list.
use Rattle.std.specs.Prelude.{◌≡◌, ℕ, ◌/◌, ◌<◌, ℤ, pos, negsuc, ◌+ℤ◌, ◌*ℤ◌, ◌<ℤ◌, ◌≤ℤ◌, List, [], length, nat_lt, slice_index_or, Bool, true, false, ◌||◌, ◌&&◌, All}
use Rattle.exact_algebra.specs.Sums.{total_by}
use Rattle.lp_cert.specs.Program.{entry}
use Rattle.lp_core.specs.declared.reduced.Line.{Line}

-- the product of two vectors of three entries
unfoldable pub along : List ℤ → List ℤ → ℤ
along c y = entry c 0 *ℤ entry y 0 +ℤ (entry c 1 *ℤ entry y 1 +ℤ entry c 2 *ℤ entry y 2)

abbrev pub line_at : List Line → ℕ → Line
line_at lines l = slice_index_or lines l (record { c = []; h = pos 0 })

-- the sums of the multiples of the rows
abbrev pub line_sum : List Line → ℕ → List (ℕ × ℤ) → ℤ
line_sum lines k items = total_by (λ item. item.1 *ℤ entry (line_at lines item.0).c k) items

abbrev pub line_sides : List Line → List (ℕ × ℤ) → ℤ
line_sides lines items = total_by (λ item. item.1 *ℤ (line_at lines item.0).h) items

-- a fraction vector that meets the rows that were seen
pub record IsMet (seen : ℕ → Bool) (lines : List Line) (num : List ℤ) (den : ℤ) : Type 0 where
  pub positive : pos 0 <ℤ den
  pub each : (l : ℕ) → l < length lines → seen l ≡ true → along (line_at lines l).c num ≤ℤ ((line_at lines l).h *ℤ den)

-- multiples of rows that were seen add up to den times the objective, and their sides to at most side
pub record IsDual (seen : ℕ → Bool) (lines : List Line) (o : List ℤ) (items : List (ℕ × ℤ)) (side den : ℤ) : Type 0 where
  pub rows : All (λ item. item.0 < length lines) items
  pub seen_rows : All (λ item. seen item.0 ≡ true) items
  pub not_negative : All (λ item. pos 0 ≤ℤ item.1) items
  pub entries : (k : ℕ) → k < 3 → line_sum lines k items ≡ den *ℤ entry o k
  pub sides : line_sides lines items ≤ℤ side

-- multiples that add up to zero, and their sides to less than zero
abbrev pub IsNone : (ℕ → Bool) → List Line → List (ℕ × ℤ) → Type 0
IsNone seen lines items = IsDual seen lines [] items (negsuc 0) (pos 0)

-- whether row l is one of the first r, or of the box of a live variable
abbrev pub is_seen : List Bool → ℕ → ℕ → Bool
is_seen live r l = nat_lt l r || (nat_lt l 6 && slice_index_or live (l / 2) false)

abbrev pub all_seen : ℕ → Bool
all_seen l = true
