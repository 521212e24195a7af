use Rattle.std.proofs.Common.{◌*ℤ◌}
use Rattle.std.specs.Int.{w128}
use Rattle.std.specs.Int.RustNames.{FitsSigned, int_div}
use Rattle.std.proofs.lemmas.Int.{to_z-of_z}
use Rattle.report_text.proofs.Points.{over_equal, over_fits, over_small, quotient_small}
use Rattle.report_text.proofs.nearest.over.Goals as goal

pub overflow_mul-result : goal.overflow_mul-result
overflow_mul-result c =
    let n = c.num.result in
    let d = c.den.result in
    let fn : FitsSigned w128 n = record { sfits = c.num.type_inv } in
    let fd : FitsSigned w128 d = record { sfits = c.den.type_inv } in
    let fden : FitsSigned w128 c.args.den = c.ranges.den in
    let fq : FitsSigned w128 (int_div c.args.den d) = quotient_small c.args.den d c.requires.den.0 c.requires.den.1 in
    simp to_z-of_z (over_fits (n *ℤ int_div c.args.den d) c.args.den c.requires.den.0 c.requires.den.1
    (over_small c.args.fraction n d c.args.den c.den.ensures.lowest.positive c.num.ensures.value c.den.ensures.value c.requires.divides c.requires.small))

pub returns-clause-equal : goal.returns-clause-equal
returns-clause-equal c =
    let n = c.num.result in
    let d = c.den.result in
    let fn : FitsSigned w128 n = record { sfits = c.num.type_inv } in
    let fd : FitsSigned w128 d = record { sfits = c.den.type_inv } in
    let fden : FitsSigned w128 c.args.den = c.ranges.den in
    let fq : FitsSigned w128 (int_div c.args.den d) = quotient_small c.args.den d c.requires.den.0 c.requires.den.1 in
    let small = over_small c.args.fraction n d c.args.den c.den.ensures.lowest.positive c.num.ensures.value c.den.ensures.value c.requires.divides c.requires.small in
    let fx : FitsSigned w128 (n *ℤ int_div c.args.den d) = over_fits (n *ℤ int_div c.args.den d) c.args.den c.requires.den.0 c.requires.den.1 small in
    simp to_z-of_z (over_equal c.args.fraction n d c.args.den c.num.ensures.value c.den.ensures.value c.requires.divides)

pub returns-clause-small : goal.returns-clause-small
returns-clause-small c =
    let n = c.num.result in
    let d = c.den.result in
    let fn : FitsSigned w128 n = record { sfits = c.num.type_inv } in
    let fd : FitsSigned w128 d = record { sfits = c.den.type_inv } in
    let fden : FitsSigned w128 c.args.den = c.ranges.den in
    let fq : FitsSigned w128 (int_div c.args.den d) = quotient_small c.args.den d c.requires.den.0 c.requires.den.1 in
    let small = over_small c.args.fraction n d c.args.den c.den.ensures.lowest.positive c.num.ensures.value c.den.ensures.value c.requires.divides c.requires.small in
    let fx : FitsSigned w128 (n *ℤ int_div c.args.den d) = over_fits (n *ℤ int_div c.args.den d) c.args.den c.requires.den.0 c.requires.den.1 small in
    simp to_z-of_z small
