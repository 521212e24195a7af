use Rattle.std.proofs.Common.{arith, subst, sym}
use Rattle.std.specs.Int.{w128}
use Rattle.std.specs.Int.RustNames.{int_div, FitsSigned}
use Rattle.std.proofs.lemmas.Int.{ints, quot_fits, to_z-of_z}
use Rattle.pay_frac.proofs.Multiple.{beyond_from_unfit, beyond_from_above, lcm_from_product, product_positive}
use Rattle.pay_frac.proofs.integers.lcm.Goals as goal

pub returns-in_err-multiple : goal.returns-in_err-multiple
returns-in_err-multiple c =
    let a = c.args.a in
    let b = c.args.b in
    let fits_a : FitsSigned w128 a = c.ranges.a in
    let fits_b : FitsSigned w128 b = c.ranges.b in
    let fits_g : FitsSigned w128 c.gcd.result = record { sfits = c.gcd.type_inv } in
    let fits_q : FitsSigned w128 (int_div a c.gcd.result) = quot_fits w128 a c.gcd.result fits_a c.gcd.ensures.positive in
    let divides = simp to_z-of_z at c.gcd.ensures.divides in
    let unfit = simp to_z-of_z at c.in_err-multiple.ensures in
    rw c.from_residual.ensures (beyond_from_unfit a b c.gcd.result c.args.bound c.requires.positive_a c.requires.positive_b c.gcd.ensures.positive divides c.ranges.bound unfit)

pub returns-then-multiple-bound : goal.returns-then-multiple-bound
returns-then-multiple-bound c =
    let a = c.args.a in
    let b = c.args.b in
    let fits_a : FitsSigned w128 a = c.ranges.a in
    let fits_b : FitsSigned w128 b = c.ranges.b in
    let fits_g : FitsSigned w128 c.gcd.result = record { sfits = c.gcd.type_inv } in
    let fits_q : FitsSigned w128 (int_div a c.gcd.result) = quot_fits w128 a c.gcd.result fits_a c.gcd.ensures.positive in
    let divides = simp to_z-of_z at c.gcd.ensures.divides in
    let formed = simp to_z-of_z at c.in_ok-multiple.ensures in
    let fits : FitsSigned w128 c.in_ok-multiple.multiple = subst (λ z. FitsSigned w128 z) (sym formed.1) formed.0 in
    let fits_bound : FitsSigned w128 c.args.bound = c.ranges.bound in
    beyond_from_above a b c.gcd.result c.args.bound c.in_ok-multiple.multiple c.requires.positive_a c.requires.positive_b c.gcd.ensures.positive divides formed.1 (omega (arith, ints))

pub returns-else-multiple-bound : goal.returns-else-multiple-bound
returns-else-multiple-bound c =
    let a = c.args.a in
    let b = c.args.b in
    let fits_a : FitsSigned w128 a = c.ranges.a in
    let fits_b : FitsSigned w128 b = c.ranges.b in
    let fits_g : FitsSigned w128 c.gcd.result = record { sfits = c.gcd.type_inv } in
    let fits_q : FitsSigned w128 (int_div a c.gcd.result) = quot_fits w128 a c.gcd.result fits_a c.gcd.ensures.positive in
    let divides = simp to_z-of_z at c.gcd.ensures.divides in
    let formed = simp to_z-of_z at c.in_ok-multiple.ensures in
    let fits : FitsSigned w128 c.in_ok-multiple.multiple = subst (λ z. FitsSigned w128 z) (sym formed.1) formed.0 in
    let fits_bound : FitsSigned w128 c.args.bound = c.ranges.bound in
    let product = c.in_ok-multiple.multiple in
    rw (to_z-of_z w128 product fits) (
      lcm_from_product a b c.gcd.result product c.requires.positive_a c.requires.positive_b c.gcd.ensures.positive divides formed.1,
      product_positive a b c.gcd.result product c.requires.positive_a c.requires.positive_b c.gcd.ensures.positive divides formed.1,
      omega (arith, ints),
    )
