use Rattle.std.proofs.Common.{◌^◌, lit<}
use Rattle.std.specs.Prelude.{◌+ℤ◌, ◌*ℤ◌}
use Rattle.std.specs.Int.{w128}
use Rattle.std.specs.Int.RustNames.{FitsSigned}
use Rattle.std.proofs.lemmas.Int.{to_z-of_z}
use Rattle.exact_algebra.proofs.Order.{abs_product}
use Rattle.lp_core.proofs.Narrow.{sum_within}
use Rattle.lp_core.proofs.Fits.{fits}
use Rattle.lp_core.proofs.wide.sum.Goals as goal

pub overflow_add-result : goal.overflow_add-result
overflow_add-result c =
    let p = abs_product c.args.factor c.args.a 18 (2 ^ 68) c.requires.factor c.requires.left in
    let q = abs_product c.args.times c.args.b 18 (2 ^ 68) c.requires.times c.requires.right in
    let s = sum_within c.args.factor c.args.a c.args.times c.args.b 18 (2 ^ 68) 18 (2 ^ 68) c.requires.factor c.requires.left c.requires.times c.requires.right in
    let f1 = c.ranges.factor in
    let f2 = c.ranges.a in
    let f3 = c.ranges.times in
    let f4 = c.ranges.b in
    let f5 : FitsSigned w128 (c.args.factor *ℤ c.args.a) = fits _ _ p (lit< tt) in
    let f6 : FitsSigned w128 (c.args.times *ℤ c.args.b) = fits _ _ q (lit< tt) in
    let f7 : FitsSigned w128 (c.args.factor *ℤ c.args.a +ℤ c.args.times *ℤ c.args.b) = fits _ _ s (lit< tt) in
    simp to_z-of_z f7

pub returns : goal.returns
returns c =
    let p = abs_product c.args.factor c.args.a 18 (2 ^ 68) c.requires.factor c.requires.left in
    let q = abs_product c.args.times c.args.b 18 (2 ^ 68) c.requires.times c.requires.right in
    let s = sum_within c.args.factor c.args.a c.args.times c.args.b 18 (2 ^ 68) 18 (2 ^ 68) c.requires.factor c.requires.left c.requires.times c.requires.right in
    let f1 = c.ranges.factor in
    let f2 = c.ranges.a in
    let f3 = c.ranges.times in
    let f4 = c.ranges.b in
    let f5 : FitsSigned w128 (c.args.factor *ℤ c.args.a) = fits _ _ p (lit< tt) in
    let f6 : FitsSigned w128 (c.args.times *ℤ c.args.b) = fits _ _ q (lit< tt) in
    let f7 : FitsSigned w128 (c.args.factor *ℤ c.args.a +ℤ c.args.times *ℤ c.args.b) = fits _ _ s (lit< tt) in
    simp to_z-of_z
