use Rattle.std.proofs.Common.{◌^◌, ◌*◌, lit<}
use Rattle.std.specs.Prelude.{◌-ℤ◌, ◌*ℤ◌}
use Rattle.std.specs.Int.{w64, w128}
use Rattle.std.specs.Int.RustNames.{FitsSigned}
use Rattle.std.proofs.lemmas.Int.{to_z-of_z}
use Rattle.exact_algebra.proofs.Order.{abs_product, abs_difference}
use Rattle.lp_core.proofs.Fits.{fits}
use Rattle.lp_core.proofs.Narrow.{narrow}
use Rattle.lp_core.proofs.plane.less.Goals as goal

pub overflow_sub-result : goal.overflow_sub-result
overflow_sub-result c =
    let p = abs_product c.args.times c.args.b 1 (2 ^ 50) c.requires.times c.requires.right in
    let s = abs_difference c.args.a (c.args.times *ℤ c.args.b) (2 ^ 50) (1 * 2 ^ 50) c.requires.left p in
    let f1 : FitsSigned w64 c.args.a = narrow _ _ c.requires.left (lit< tt) in
    let f2 : FitsSigned w64 c.args.times = narrow _ _ c.requires.times (lit< tt) in
    let f3 : FitsSigned w64 c.args.b = narrow _ _ c.requires.right (lit< tt) in
    let g1 : FitsSigned w128 c.args.a = fits _ _ c.requires.left (lit< tt) in
    let g2 : FitsSigned w128 c.args.times = fits _ _ c.requires.times (lit< tt) in
    let g3 : FitsSigned w128 c.args.b = fits _ _ c.requires.right (lit< tt) in
    let f4 : FitsSigned w64 (c.args.times *ℤ c.args.b) = narrow _ _ p (lit< tt) in
    let f5 : FitsSigned w64 (c.args.a -ℤ c.args.times *ℤ c.args.b) = narrow _ _ s (lit< tt) in
    simp to_z-of_z f5

pub returns : goal.returns
returns c =
    let p = abs_product c.args.times c.args.b 1 (2 ^ 50) c.requires.times c.requires.right in
    let s = abs_difference c.args.a (c.args.times *ℤ c.args.b) (2 ^ 50) (1 * 2 ^ 50) c.requires.left p in
    let f1 : FitsSigned w64 c.args.a = narrow _ _ c.requires.left (lit< tt) in
    let f2 : FitsSigned w64 c.args.times = narrow _ _ c.requires.times (lit< tt) in
    let f3 : FitsSigned w64 c.args.b = narrow _ _ c.requires.right (lit< tt) in
    let g1 : FitsSigned w128 c.args.a = fits _ _ c.requires.left (lit< tt) in
    let g2 : FitsSigned w128 c.args.times = fits _ _ c.requires.times (lit< tt) in
    let g3 : FitsSigned w128 c.args.b = fits _ _ c.requires.right (lit< tt) in
    let f4 : FitsSigned w64 (c.args.times *ℤ c.args.b) = narrow _ _ p (lit< tt) in
    let f5 : FitsSigned w64 (c.args.a -ℤ c.args.times *ℤ c.args.b) = narrow _ _ s (lit< tt) in
    simp to_z-of_z
