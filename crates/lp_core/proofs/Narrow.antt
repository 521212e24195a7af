-- Numbers that fit 64 bits.
use Rattle.std.proofs.Common.{ℕ, ◌+◌, ◌*◌, ◌<◌, ◌≤◌, ◌^◌, arith}
use Rattle.std.specs.Prelude.{ℤ, ◌+ℤ◌, ◌-ℤ◌, ◌*ℤ◌}
use Rattle.std.specs.Int.{w64}
use Rattle.std.specs.Int.RustNames.{FitsSigned, unsigned_abs}
use Rattle.std.proofs.lemmas.Int.{fits_signed_from_abs}
use Rattle.exact_algebra.proofs.Order.{abs_product, abs_sum, abs_difference}

pub narrow : (x : ℤ) (m : ℕ) → unsigned_abs x ≤ m → m < 2 ^ 63 → FitsSigned w64 x
narrow x m h l = fits_signed_from_abs w64 x (omega (arith, h, l))

pub difference_within : (f x t y : ℤ) (a b d e : ℕ) → unsigned_abs f ≤ a → unsigned_abs x ≤ b → unsigned_abs t ≤ d → unsigned_abs y ≤ e → unsigned_abs (f *ℤ x -ℤ t *ℤ y) ≤ a * b + d * e
difference_within f x t y a b d e h i j k = abs_difference (f *ℤ x) (t *ℤ y) (a * b) (d * e) (abs_product f x a b h i) (abs_product t y d e j k)

pub sum_within : (f x t y : ℤ) (a b d e : ℕ) → unsigned_abs f ≤ a → unsigned_abs x ≤ b → unsigned_abs t ≤ d → unsigned_abs y ≤ e → unsigned_abs (f *ℤ x +ℤ t *ℤ y) ≤ a * b + d * e
sum_within f x t y a b d e h i j k = abs_sum (f *ℤ x) (t *ℤ y) (a * b) (d * e) (abs_product f x a b h i) (abs_product t y d e j k)
