use Rattle.std.proofs.Common.{◌≡◌, ◌↔◌, true, IsTrue, ℤ, ◌≤ℤ◌, sym, arith}
use Rattle.std.specs.Int.{w128}
use Rattle.std.specs.Int.RustNames.{FitsSigned, int_le}
use Rattle.std.proofs.lemmas.Int.{ints, to_z-of_z}
use Rattle.pay_frac.proofs.Reduce.{num_fits_of, den_fits_of}
use Rattle.pay_frac.proofs.fractions.at_most.Goals as goal

tested : (a b : ℤ) → IsTrue (int_le a b) ↔ (a ≤ℤ b)
tested a b = (λ t. omega (arith, ints), λ h. let e : true ≡ int_le a b = omega (arith, ints) in sym e)

pub returns : goal.returns
returns c =
    let fits_an = num_fits_of (record { num = c.a.inside.num; den = c.a.inside.den }) c.a.invariant in
    let fits_ad = den_fits_of (record { num = c.a.inside.num; den = c.a.inside.den }) c.a.invariant in
    let fits_bn = num_fits_of (record { num = c.b.inside.num; den = c.b.inside.den }) c.b.invariant in
    let fits_bd = den_fits_of (record { num = c.b.inside.num; den = c.b.inside.den }) c.b.invariant in
    let left = simp to_z-of_z at c.small_product.ensures.value in
    let right = simp to_z-of_z at c.small_product-2.ensures.value in
    let fits_left : FitsSigned w128 c.small_product.result = record { sfits = c.small_product.type_inv } in
    let fits_right : FitsSigned w128 c.small_product-2.result = record { sfits = c.small_product-2.type_inv } in
    rw (← c.a.view_is, ← c.b.view_is, ← left, ← right) (simp to_z-of_z (tested c.small_product.result c.small_product-2.result))
