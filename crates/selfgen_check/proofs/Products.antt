-- Products of small numbers, as the code forms them.
use Rattle.std.proofs.Common.{◌≡◌, ℕ, ◌+◌, ◌*◌, ◌^◌, ◌<◌, ◌≤◌, ap, arith, to_z, of_z, FitsSigned}
use Rattle.std.specs.Prelude.{ℤ, ◌+ℤ◌, unsigned_abs}
use Rattle.std.proofs.lemmas.Int.{fits_signed_from_abs, to_z-of_z}
use Rattle.exact_algebra.proofs.Order.{abs_sum}
use mir.Syntax.{w128}

-- one more summand of a sum over a lottery
pub one_more : (s t z : ℤ) (k : ℕ) → k < 4 → unsigned_abs s ≤ k * 2 ^ 113 → t ≡ z → unsigned_abs t ≤ 2 ^ 113 →
    (to_z w128 (of_z w128 (s +ℤ to_z w128 (of_z w128 t))) ≡ s +ℤ z) × (unsigned_abs (to_z w128 (of_z w128 (s +ℤ to_z w128 (of_z w128 t)))) ≤ (k + 1) * 2 ^ 113)
one_more s t z k few h e small =
    let f : FitsSigned w128 t = fits_signed_from_abs w128 t (omega arith) in
    let b : unsigned_abs (s +ℤ t) ≤ k * 2 ^ 113 + 2 ^ 113 = abs_sum s t (k * 2 ^ 113) (2 ^ 113) h small in
    let g : FitsSigned w128 (s +ℤ t) = fits_signed_from_abs w128 (s +ℤ t) (omega arith) in
    rw (to_z-of_z w128 t f, to_z-of_z w128 (s +ℤ t) g) (ap (λ x. s +ℤ x) e, omega arith)
