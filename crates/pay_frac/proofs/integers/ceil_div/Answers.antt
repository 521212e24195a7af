use Rattle.std.proofs.Common.{pos, ◌+ℤ◌, ◌-ℤ◌, arith, FitsSigned}
use Rattle.std.specs.Int.{w128}
use Rattle.std.specs.Int.RustNames.{int_div}
use Rattle.std.proofs.lemmas.Int.{ints, to_z-of_z, quot_fits}
use Rattle.exact_algebra.proofs.Quotients.{ceiling_above, ceiling_at_most, ceiling_fits}
use Rattle.pay_frac.proofs.integers.ceil_div.Goals as goal

pub returns-then-n-gt0 : goal.returns-then-n-gt0
returns-then-n-gt0 c =
    let n = c.args.n in
    let d = c.args.d in
    let fits_n : FitsSigned w128 n = c.ranges.n in
    let fits_d : FitsSigned w128 d = c.ranges.d in
    let fits_less : FitsSigned w128 (n -ℤ pos 1) = omega (arith, ints) in
    let fits_q : FitsSigned w128 (int_div (n -ℤ pos 1) d) = quot_fits w128 (n -ℤ pos 1) d fits_less c.requires in
    let fits : FitsSigned w128 (int_div (n -ℤ pos 1) d +ℤ pos 1) = ceiling_fits w128 n d (omega (arith, ints)) fits_n c.requires in
    simp to_z-of_z (ceiling_above n d (omega (arith, ints)) c.requires)

pub returns-else-n-gt0 : goal.returns-else-n-gt0
returns-else-n-gt0 c =
    let fits_n : FitsSigned w128 c.args.n = c.ranges.n in
    let fits_d : FitsSigned w128 c.args.d = c.ranges.d in
    let fits_q : FitsSigned w128 (int_div c.args.n c.args.d) = quot_fits w128 c.args.n c.args.d fits_n c.requires in
    simp to_z-of_z (ceiling_at_most c.args.n c.args.d (omega (arith, ints)) c.requires)
