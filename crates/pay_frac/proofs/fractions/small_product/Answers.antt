use Rattle.std.proofs.Common.{◌≤◌, ◌^◌, lit<, ℤ, ◌*ℤ◌}
use Rattle.std.specs.Int.{w128}
use Rattle.std.specs.Int.RustNames.{FitsSigned, unsigned_abs}
use Rattle.std.proofs.lemmas.Int.{fits_signed_mul, to_z-of_z}
use Rattle.exact_algebra.proofs.Order.{abs_product}
use Rattle.pay_frac.proofs.fractions.small_product.Goals as goal

fits : (a b : ℤ) → unsigned_abs a ≤ 2 ^ 62 → unsigned_abs b ≤ 2 ^ 62 → FitsSigned w128 (a *ℤ b)
fits a b h k = fits_signed_mul w128 a b (2 ^ 62) (2 ^ 62) h k (lit< tt)

pub returns-clause-value : goal.returns-clause-value
returns-clause-value c =
    let fits_a : FitsSigned w128 c.args.a = c.ranges.a in
    let fits_b : FitsSigned w128 c.args.b = c.ranges.b in
    let fits_product : FitsSigned w128 (c.args.a *ℤ c.args.b) = fits c.args.a c.args.b c.requires.small_a c.requires.small_b in
    simp to_z-of_z

pub returns-clause-bound : goal.returns-clause-bound
returns-clause-bound c =
    let fits_a : FitsSigned w128 c.args.a = c.ranges.a in
    let fits_b : FitsSigned w128 c.args.b = c.ranges.b in
    let fits_product : FitsSigned w128 (c.args.a *ℤ c.args.b) = fits c.args.a c.args.b c.requires.small_a c.requires.small_b in
    simp to_z-of_z (abs_product c.args.a c.args.b (2 ^ 62) (2 ^ 62) c.requires.small_a c.requires.small_b)
