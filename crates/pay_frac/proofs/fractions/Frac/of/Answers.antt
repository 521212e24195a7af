use Rattle.std.specs.Int.{w128}
use Rattle.std.specs.Int.RustNames.{FitsSigned, int_div}
use Rattle.std.proofs.lemmas.Int.{to_z-of_z}
use Rattle.pay_frac.proofs.Reduce.{Reduced, quotient_fits, reduced_by, no_greater}
use Rattle.pay_frac.proofs.fractions.Frac.of.Goals as goal

reduced : (c : goal.After-signed_divisor-divisor) → Reduced c.args.num c.args.den c.signed_divisor-divisor.result
reduced c =
    let fits_num : FitsSigned w128 c.args.num = c.ranges.num in
    let fits_den : FitsSigned w128 c.args.den = c.ranges.den in
    let divides = simp to_z-of_z at c.signed_divisor-divisor.ensures.divides in
    let negative = simp to_z-of_z at c.signed_divisor-divisor.ensures.negative in
    let positive = simp to_z-of_z at c.signed_divisor-divisor.ensures.positive in
    reduced_by c.args.num c.args.den c.signed_divisor-divisor.result c.requires.not_zero c.requires.num_not_least c.requires.den_not_least divides negative positive

pub invariant_of-result : goal.invariant_of-result
invariant_of-result c =
    let d = c.signed_divisor-divisor.result in
    let fits_num : FitsSigned w128 c.args.num = c.ranges.num in
    let fits_den : FitsSigned w128 c.args.den = c.ranges.den in
    let fits_divisor : FitsSigned w128 d = record { sfits = c.signed_divisor-divisor.type_inv } in
    let num_fits : FitsSigned w128 (int_div c.args.num d) = quotient_fits c.args.num d c.requires.num_not_least in
    let den_fits : FitsSigned w128 (int_div c.args.den d) = quotient_fits c.args.den d c.requires.den_not_least in
    simp to_z-of_z (reduced c).lowest

pub returns-clause-equal : goal.returns-clause-equal
returns-clause-equal c =
    let d = c.signed_divisor-divisor.result in
    let fits_num : FitsSigned w128 c.args.num = c.ranges.num in
    let fits_den : FitsSigned w128 c.args.den = c.ranges.den in
    let fits_divisor : FitsSigned w128 d = record { sfits = c.signed_divisor-divisor.type_inv } in
    let num_fits : FitsSigned w128 (int_div c.args.num d) = quotient_fits c.args.num d c.requires.num_not_least in
    let den_fits : FitsSigned w128 (int_div c.args.den d) = quotient_fits c.args.den d c.requires.den_not_least in
    simp to_z-of_z (reduced c).equal

pub returns-clause-lowest : goal.returns-clause-lowest
returns-clause-lowest c = invariant_of-result c

pub returns-clause-num_no_greater : goal.returns-clause-num_no_greater
returns-clause-num_no_greater c =
    let d = c.signed_divisor-divisor.result in
    let fits_num : FitsSigned w128 c.args.num = c.ranges.num in
    let fits_divisor : FitsSigned w128 d = record { sfits = c.signed_divisor-divisor.type_inv } in
    let num_fits : FitsSigned w128 (int_div c.args.num d) = quotient_fits c.args.num d c.requires.num_not_least in
    simp to_z-of_z (no_greater c.args.num d)

pub returns-clause-den_no_greater : goal.returns-clause-den_no_greater
returns-clause-den_no_greater c =
    let d = c.signed_divisor-divisor.result in
    let fits_den : FitsSigned w128 c.args.den = c.ranges.den in
    let fits_divisor : FitsSigned w128 d = record { sfits = c.signed_divisor-divisor.type_inv } in
    let den_fits : FitsSigned w128 (int_div c.args.den d) = quotient_fits c.args.den d c.requires.den_not_least in
    simp to_z-of_z (no_greater c.args.den d)
