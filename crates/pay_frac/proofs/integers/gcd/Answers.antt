use Rattle.std.proofs.Common.{◌<◌, ◌^◌, arith}
use Rattle.std.specs.Int.{w128, IsGcd}
use Rattle.std.specs.Int.RustNames.{FitsSigned, unsigned_abs}
use Rattle.std.proofs.lemmas.Int.{ints, to_z_pos, to_z-of_z}
use Rattle.pay_frac.proofs.Coprime.{divisor_below}
use Rattle.pay_frac.proofs.integers.gcd.Goals as goal

small : (c : goal.After-common_divisor) → c.common_divisor.result < 2 ^ 127
small c =
    divisor_below c.unsigned_abs.result c.unsigned_abs-2.result c.common_divisor.result (2 ^ 127)
    (omega (arith, ints)) c.common_divisor.ensures.divides (omega (arith, ints)) (omega (arith, ints))

divides : (c : goal.After-common_divisor) → IsGcd (unsigned_abs c.args.a) (unsigned_abs c.args.b) c.common_divisor.result
divides c =
    let fits_a : FitsSigned w128 c.args.a = c.ranges.a in
    let fits_b : FitsSigned w128 c.args.b = c.ranges.b in
    simp (c.unsigned_abs.ensures.value, c.unsigned_abs-2.ensures.value, to_z-of_z) at c.common_divisor.ensures.divides

pub overflow_cast-result : goal.overflow_cast-result
overflow_cast-result c = record { sfits = small c }

pub returns-clause-divides : goal.returns-clause-divides
returns-clause-divides c = rw (to_z_pos w128 c.common_divisor.result (small c)) (divides c)

pub returns-clause-positive : goal.returns-clause-positive
returns-clause-positive c = rw (to_z_pos w128 c.common_divisor.result (small c)) (omega (arith, ints))
