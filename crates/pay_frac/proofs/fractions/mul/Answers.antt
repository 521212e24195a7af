use Rattle.std.specs.Int.{w128}
use Rattle.std.specs.Int.RustNames.{FitsSigned}
use Rattle.std.proofs.lemmas.Int.{to_z-of_z}
use Rattle.pay_frac.specs.Ratio.{Ratio}
use Rattle.pay_frac.proofs.Reduce.{den_fits_of, dens_product}
use Rattle.pay_frac.proofs.fractions.mul.Goals as goal

pub of-requires-clause-not_zero : goal.of-requires-clause-not_zero
of-requires-clause-not_zero c =
    let a : Ratio = record { num = c.a.inside.num; den = c.a.inside.den } in
    let b : Ratio = record { num = c.b.inside.num; den = c.b.inside.den } in
    let fits_a = den_fits_of a c.a.invariant in
    let fits_b = den_fits_of b c.b.invariant in
    let fits : FitsSigned w128 c.small_product-2.result = record { sfits = c.small_product-2.type_inv } in
    let value = simp to_z-of_z at c.small_product-2.ensures.value in
    rw (to_z-of_z w128 c.small_product-2.result fits, value) (dens_product a b c.a.invariant c.b.invariant)
