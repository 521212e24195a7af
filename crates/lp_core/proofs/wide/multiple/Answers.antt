use Rattle.std.proofs.Common.{◌^◌, lit<}
use Rattle.std.specs.Prelude.{◌*ℤ◌}
use Rattle.std.specs.Int.{w128}
use Rattle.std.specs.Int.RustNames.{FitsSigned}
use Rattle.std.proofs.lemmas.Int.{to_z-of_z}
use Rattle.exact_algebra.proofs.Order.{abs_product}
use Rattle.lp_core.proofs.Fits.{fits}
use Rattle.lp_core.proofs.wide.multiple.Goals as goal

pub returns : goal.returns
returns c =
    let p = abs_product c.args.factor c.args.a 18 (2 ^ 68) c.requires.factor c.requires.right in
    let f1 = c.ranges.factor in
    let f2 = c.ranges.a in
    let f3 : FitsSigned w128 (c.args.factor *ℤ c.args.a) = fits _ _ p (lit< tt) in
    simp to_z-of_z
