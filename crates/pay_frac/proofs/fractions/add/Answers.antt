use Rattle.std.proofs.Common.{◌+ℤ◌, arith}
use Rattle.std.specs.Int.{w128}
use Rattle.std.specs.Int.RustNames.{FitsSigned}
use Rattle.std.proofs.lemmas.Int.{ints, to_z-of_z}
use Rattle.pay_frac.specs.Ratio.{Ratio}
use Rattle.pay_frac.proofs.Reduce.{num_fits_of, den_fits_of, dens_product}
use Rattle.pay_frac.proofs.fractions.add.Goals as goal

pub overflow_add-num : goal.overflow_add-num
overflow_add-num c =
    let b1 = c.small_product.ensures.bound in
    let b2 = c.small_product-2.ensures.bound in
    omega (arith, ints)

pub of-requires-clause-not_zero : goal.of-requires-clause-not_zero
of-requires-clause-not_zero c =
    let a : Ratio = record { num = c.a.inside.num; den = c.a.inside.den } in
    let b : Ratio = record { num = c.b.inside.num; den = c.b.inside.den } in
    let fits_a = den_fits_of a c.a.invariant in
    let fits_b = den_fits_of b c.b.invariant in
    let fits : FitsSigned w128 c.small_product-3.result = record { sfits = c.small_product-3.type_inv } in
    let value = simp to_z-of_z at c.small_product-3.ensures.value in
    rw (to_z-of_z w128 c.small_product-3.result fits, value) (dens_product a b c.a.invariant c.b.invariant)

pub returns-clause-equal : goal.returns-clause-equal
returns-clause-equal c =
    let a : Ratio = record { num = c.a.inside.num; den = c.a.inside.den } in
    let b : Ratio = record { num = c.b.inside.num; den = c.b.inside.den } in
    let fits_an = num_fits_of a c.a.invariant in
    let fits_ad = den_fits_of a c.a.invariant in
    let fits_bn = num_fits_of b c.b.invariant in
    let fits_bd = den_fits_of b c.b.invariant in
    let v1 = simp to_z-of_z at c.small_product.ensures.value in
    let v2 = simp to_z-of_z at c.small_product-2.ensures.value in
    let v3 = simp to_z-of_z at c.small_product-3.ensures.value in
    let b1 = c.small_product.ensures.bound in
    let b2 = c.small_product-2.ensures.bound in
    let f1 : FitsSigned w128 c.small_product.result = record { sfits = c.small_product.type_inv } in
    let f2 : FitsSigned w128 c.small_product-2.result = record { sfits = c.small_product-2.type_inv } in
    let f3 : FitsSigned w128 c.small_product-3.result = record { sfits = c.small_product-3.type_inv } in
    let f4 : FitsSigned w128 (c.small_product.result +ℤ c.small_product-2.result) = omega (arith, ints) in
    rw (← c.a.view_is, ← c.b.view_is, ← v1, ← v2, ← v3) (simp to_z-of_z at c.of.ensures.equal)
