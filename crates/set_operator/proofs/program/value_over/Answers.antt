use Rattle.std.proofs.Common.{◌≤◌, ◌^◌, ◌*◌, ◌+◌, arith, lit<}
use Rattle.std.specs.Prelude.{◌*ℤ◌, ◌+ℤ◌}
use Rattle.std.specs.Int.{w128}
use Rattle.std.specs.Int.RustNames.{FitsSigned, unsigned_abs}
use Rattle.std.proofs.lemmas.Int.{to_z-of_z}
use Rattle.exact_algebra.proofs.Order.{abs_sum, abs_product}
use Rattle.exact_algebra.proofs.Fits.{fits128}
use Rattle.set_operator.proofs.Fits.{sum128}
use Rattle.set_operator.proofs.program.value_over.Goals as goal

pub returns-clause-value : goal.returns-clause-value
returns-clause-value c =
    let f1 : FitsSigned w128 c.args.den = c.ranges.den in
    let f2 : FitsSigned w128 c.args.stage = c.ranges.stage in
    let f3 : FitsSigned w128 c.args.value = c.ranges.value in
    let product : unsigned_abs (c.args.den *ℤ c.args.stage) ≤ 2 ^ 20 * 2 ^ 64 = abs_product c.args.den c.args.stage (2 ^ 20) (2 ^ 64) c.requires.den c.requires.stage in
    let f4 : FitsSigned w128 (c.args.den *ℤ c.args.stage) = fits128 (c.args.den *ℤ c.args.stage) (2 ^ 20 * 2 ^ 64) product (lit< tt) in
    let f5 : FitsSigned w128 (c.args.den *ℤ c.args.stage +ℤ c.args.value) = sum128 (c.args.den *ℤ c.args.stage) c.args.value (2 ^ 20 * 2 ^ 64) (2 ^ 102) product c.requires.value (lit< tt) in
    simp to_z-of_z

pub returns-clause-bound : goal.returns-clause-bound
returns-clause-bound c =
    let f1 : FitsSigned w128 c.args.den = c.ranges.den in
    let f2 : FitsSigned w128 c.args.stage = c.ranges.stage in
    let f3 : FitsSigned w128 c.args.value = c.ranges.value in
    let product : unsigned_abs (c.args.den *ℤ c.args.stage) ≤ 2 ^ 20 * 2 ^ 64 = abs_product c.args.den c.args.stage (2 ^ 20) (2 ^ 64) c.requires.den c.requires.stage in
    let f4 : FitsSigned w128 (c.args.den *ℤ c.args.stage) = fits128 (c.args.den *ℤ c.args.stage) (2 ^ 20 * 2 ^ 64) product (lit< tt) in
    let bound : unsigned_abs (c.args.den *ℤ c.args.stage +ℤ c.args.value) ≤ 2 ^ 20 * 2 ^ 64 + 2 ^ 102 = abs_sum (c.args.den *ℤ c.args.stage) c.args.value (2 ^ 20 * 2 ^ 64) (2 ^ 102) product c.requires.value in
    let f5 : FitsSigned w128 (c.args.den *ℤ c.args.stage +ℤ c.args.value) = sum128 (c.args.den *ℤ c.args.stage) c.args.value (2 ^ 20 * 2 ^ 64) (2 ^ 102) product c.requires.value (lit< tt) in
    simp to_z-of_z (omega arith)
