use Rattle.std.proofs.Common.{◌-◌, ◌^◌}
use Rattle.std.specs.Int.{w128}
use Rattle.std.specs.Int.RustNames.{int_div, FitsSigned}
use Rattle.std.proofs.lemmas.Int.{quot_fits, to_z-of_z}
use Rattle.pay_frac.proofs.Multiple.{capped_from_product}
use Rattle.pay_frac.proofs.integers.capped_multiple.Goals as goal

pub returns : goal.returns
returns c =
    let a = c.args.a in
    let b = c.args.b in
    let fits_a : FitsSigned w128 a = c.ranges.a in
    let fits_b : FitsSigned w128 b = c.ranges.b in
    let fits_g : FitsSigned w128 c.gcd.result = record { sfits = c.gcd.type_inv } in
    let fits_q : FitsSigned w128 (int_div a c.gcd.result) = quot_fits w128 a c.gcd.result fits_a c.gcd.ensures.positive in
    let fits_r : FitsSigned w128 c.capped_product.result = record { sfits = c.capped_product.type_inv } in
    let divides = simp to_z-of_z at c.gcd.ensures.divides in
    let value = simp to_z-of_z at c.capped_product.ensures in
    rw (to_z-of_z w128 c.capped_product.result fits_r) (
    capped_from_product a b c.gcd.result c.capped_product.result (2 ^ 127 - 1) c.requires.positive_a c.requires.positive_b c.gcd.ensures.positive divides value
    )
