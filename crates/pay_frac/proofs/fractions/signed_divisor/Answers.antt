use Rattle.std.proofs.Common.{◌≡◌, ◌<◌, ◌^◌, ℕ, pos, ◌-ℤ◌, arith}
use Rattle.std.specs.Int.{w128, IsGcd}
use Rattle.std.specs.Int.RustNames.{FitsSigned, unsigned_abs}
use Rattle.std.proofs.lemmas.Int.{ints, to_z_pos, to_z-of_z}
use Rattle.pay_frac.proofs.Coprime.{divisor_below}
use Rattle.pay_frac.proofs.Reduce.{abs_positive}
use Rattle.pay_frac.proofs.fractions.signed_divisor.Goals as goal

divides : (c : goal.After-common_divisor-common) → IsGcd (unsigned_abs c.args.num) (unsigned_abs c.args.den) c.common_divisor-common.result
divides c =
    let fits_num : FitsSigned w128 c.args.num = c.ranges.num in
    let fits_den : FitsSigned w128 c.args.den = c.ranges.den in
    simp (c.unsigned_abs.ensures.value, c.unsigned_abs-2.ensures.value, to_z-of_z) at c.common_divisor-common.ensures.divides

small : (c : goal.After-common_divisor-common) → c.common_divisor-common.result < 2 ^ 127
small c =
    let p = abs_positive c.args.den c.requires.not_zero in
    divisor_below (unsigned_abs c.args.num) (unsigned_abs c.args.den) c.common_divisor-common.result (2 ^ 127)
    (omega arith) (divides c) c.requires.num_not_least c.requires.den_not_least

abs_of_negative : (n : ℕ) → unsigned_abs (pos 0 -ℤ pos n) ≡ n
abs_of_negative n = omega (arith, ints)

pub overflow_cast-common : goal.overflow_cast-common
overflow_cast-common c = record { sfits = small c }

pub overflow_sub-result : goal.overflow_sub-result
overflow_sub-result c = let h = small c.before in rw (to_z_pos w128 c.common_divisor-common.result h) (omega (arith, ints))

pub returns-then-den-lt0-clause-divides : goal.returns-then-den-lt0-clause-divides
returns-then-den-lt0-clause-divides c =
    let g = c.common_divisor-common.result in
    let h = small c.before in
    let fits : FitsSigned w128 (pos 0 -ℤ pos g) = omega (arith, ints) in
    rw (to_z_pos w128 g h, to_z-of_z w128 (pos 0 -ℤ pos g) fits, abs_of_negative g) (divides c.before)

pub returns-then-den-lt0-clause-negative : goal.returns-then-den-lt0-clause-negative
returns-then-den-lt0-clause-negative c = λ _.
    let g = c.common_divisor-common.result in
    let h = small c.before in
    let fits : FitsSigned w128 (pos 0 -ℤ pos g) = omega (arith, ints) in
    rw (to_z_pos w128 g h, to_z-of_z w128 (pos 0 -ℤ pos g) fits) (omega (arith, ints))

pub returns-else-den-lt0-clause-divides : goal.returns-else-den-lt0-clause-divides
returns-else-den-lt0-clause-divides c = rw (to_z_pos w128 c.common_divisor-common.result (small c.before)) (divides c.before)

pub returns-else-den-lt0-clause-positive : goal.returns-else-den-lt0-clause-positive
returns-else-den-lt0-clause-positive c = λ _. rw (to_z_pos w128 c.common_divisor-common.result (small c.before)) (omega (arith, ints))
