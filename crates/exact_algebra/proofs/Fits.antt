-- Whole numbers of bounded absolute value fit signed types, and the code's product of two of them is exact.
use Rattle.std.proofs.Common.{◌≡◌, ℕ, ◌*◌, ◌^◌, ◌<◌, ◌≤◌, arith, ℤ, ◌*ℤ◌, to_z, of_z, FitsSigned}
use Rattle.std.specs.Int.{w32, w64, w128}
use Rattle.std.specs.Int.RustNames.{unsigned_abs}
use Rattle.std.proofs.lemmas.Int.{fits_signed_mul, fits_signed_from_abs, to_z-of_z}
use mir.Syntax.{Width}
use mir.Val.{hbits}

pub fits32 : (x : ℤ) (m : ℕ) → unsigned_abs x ≤ m → m < 2 ^ 31 → FitsSigned w32 x
fits32 x m h l = fits_signed_from_abs w32 x (omega (arith, h, l))

pub fits64 : (x : ℤ) (m : ℕ) → unsigned_abs x ≤ m → m < 2 ^ 63 → FitsSigned w64 x
fits64 x m h l = fits_signed_from_abs w64 x (omega (arith, h, l))

pub fits128 : (x : ℤ) (m : ℕ) → unsigned_abs x ≤ m → m < 2 ^ 127 → FitsSigned w128 x
fits128 x m h l = fits_signed_from_abs w128 x (omega (arith, h, l))

-- a product of small numbers fits, and the code's product is it
pub product_fits : (w : Width) (x y : ℤ) (m n : ℕ) → FitsSigned w x → FitsSigned w y → unsigned_abs x ≤ m → unsigned_abs y ≤ n → m * n < 2 ^ hbits w →
    FitsSigned w (to_z w (of_z w x) *ℤ to_z w (of_z w y))
product_fits w x y m n f g p q h = rw (to_z-of_z w x f, to_z-of_z w y g) (fits_signed_mul w x y m n p q h)

pub product_is : (w : Width) (x y : ℤ) (m n : ℕ) → FitsSigned w x → FitsSigned w y → unsigned_abs x ≤ m → unsigned_abs y ≤ n → m * n < 2 ^ hbits w →
    to_z w (of_z w (to_z w (of_z w x) *ℤ to_z w (of_z w y))) ≡ x *ℤ y
product_is w x y m n f g p q h =
    rw (to_z-of_z w x f, to_z-of_z w y g) (to_z-of_z w (x *ℤ y) (fits_signed_mul w x y m n p q h))
