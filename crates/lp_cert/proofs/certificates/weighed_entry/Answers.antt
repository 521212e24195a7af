use Rattle.std.proofs.Common.{◌≤◌, ◌*◌, ◌^◌, lit<, ℤ, ◌*ℤ◌, arith}
use Rattle.std.specs.Int.{w32, w128}
use Rattle.std.specs.Int.RustNames.{FitsSigned, unsigned_abs}
use Rattle.std.proofs.lemmas.Int.{ints, fits_signed_mul, to_z-of_z}
use Rattle.exact_algebra.proofs.Order.{abs_product}
use Rattle.lp_cert.proofs.certificates.weighed_entry.Goals as goal

fits : (a b : ℤ) → unsigned_abs a ≤ 2 ^ 20 → unsigned_abs b ≤ 3 → FitsSigned w128 (a *ℤ b)
fits a b h k = fits_signed_mul w128 a b (2 ^ 20) (3) h k (lit< tt)

pub returns-clause-value : goal.returns-clause-value
returns-clause-value c =
    let f1 : FitsSigned w128 c.args.times = c.ranges.times in
    let f2 : FitsSigned w32 c.args.entry = c.ranges.entry in
    let f3 : FitsSigned w128 c.args.entry = omega (arith, ints) in
    let f4 : FitsSigned w128 (c.args.times *ℤ c.args.entry) = fits c.args.times c.args.entry c.requires.times_small c.requires.entry_small in
    simp to_z-of_z

pub returns-clause-bound : goal.returns-clause-bound
returns-clause-bound c =
    let f1 : FitsSigned w128 c.args.times = c.ranges.times in
    let f2 : FitsSigned w32 c.args.entry = c.ranges.entry in
    let f3 : FitsSigned w128 c.args.entry = omega (arith, ints) in
    let f4 : FitsSigned w128 (c.args.times *ℤ c.args.entry) = fits c.args.times c.args.entry c.requires.times_small c.requires.entry_small in
    let bound : unsigned_abs (c.args.times *ℤ c.args.entry) ≤ 2 ^ 20 * (3) = abs_product c.args.times c.args.entry (2 ^ 20) (3) c.requires.times_small c.requires.entry_small in
    simp to_z-of_z (omega arith)
