use Rattle.std.proofs.Common.{◌*◌, ◌^◌, lit<}
use Rattle.std.specs.Prelude.{◌-ℤ◌, ◌*ℤ◌}
use Rattle.std.specs.Int.{w128}
use Rattle.std.specs.Int.RustNames.{FitsSigned}
use Rattle.std.proofs.lemmas.Int.{to_z-of_z}
use Rattle.exact_algebra.proofs.Order.{abs_product, abs_difference}
use Rattle.lp_core.proofs.Fits.{fits}
use Rattle.lp_core.proofs.elimination.difference.Goals as goal

pub overflow_mul-result : goal.overflow_mul-result
overflow_mul-result c =
    let p = abs_product c.args.factor c.args.a (2 ^ 10) (2 ^ 90) c.requires.factor c.requires.left in
    let q = abs_product c.args.times c.args.b (2 ^ 21) (2 ^ 102) c.requires.times c.requires.right in
    let s = abs_difference (c.args.factor *ℤ c.args.a) (c.args.times *ℤ c.args.b) (2 ^ 10 * 2 ^ 90) (2 ^ 21 * 2 ^ 102) p q in
    let f1 : FitsSigned w128 c.args.factor = fits _ _ c.requires.factor (lit< tt) in
    let f2 : FitsSigned w128 c.args.a = fits _ _ c.requires.left (lit< tt) in
    let f3 : FitsSigned w128 c.args.times = fits _ _ c.requires.times (lit< tt) in
    let f4 : FitsSigned w128 c.args.b = fits _ _ c.requires.right (lit< tt) in
    let f5 : FitsSigned w128 (c.args.factor *ℤ c.args.a) = fits _ _ p (lit< tt) in
    let f6 : FitsSigned w128 (c.args.times *ℤ c.args.b) = fits _ _ q (lit< tt) in
    let f7 : FitsSigned w128 (c.args.factor *ℤ c.args.a -ℤ c.args.times *ℤ c.args.b) = fits _ _ s (lit< tt) in
    simp to_z-of_z f5

pub overflow_mul-result-2 : goal.overflow_mul-result-2
overflow_mul-result-2 c =
    let p = abs_product c.args.factor c.args.a (2 ^ 10) (2 ^ 90) c.requires.factor c.requires.left in
    let q = abs_product c.args.times c.args.b (2 ^ 21) (2 ^ 102) c.requires.times c.requires.right in
    let s = abs_difference (c.args.factor *ℤ c.args.a) (c.args.times *ℤ c.args.b) (2 ^ 10 * 2 ^ 90) (2 ^ 21 * 2 ^ 102) p q in
    let f1 : FitsSigned w128 c.args.factor = fits _ _ c.requires.factor (lit< tt) in
    let f2 : FitsSigned w128 c.args.a = fits _ _ c.requires.left (lit< tt) in
    let f3 : FitsSigned w128 c.args.times = fits _ _ c.requires.times (lit< tt) in
    let f4 : FitsSigned w128 c.args.b = fits _ _ c.requires.right (lit< tt) in
    let f5 : FitsSigned w128 (c.args.factor *ℤ c.args.a) = fits _ _ p (lit< tt) in
    let f6 : FitsSigned w128 (c.args.times *ℤ c.args.b) = fits _ _ q (lit< tt) in
    let f7 : FitsSigned w128 (c.args.factor *ℤ c.args.a -ℤ c.args.times *ℤ c.args.b) = fits _ _ s (lit< tt) in
    simp to_z-of_z f6

pub overflow_sub-result : goal.overflow_sub-result
overflow_sub-result c =
    let p = abs_product c.args.factor c.args.a (2 ^ 10) (2 ^ 90) c.requires.factor c.requires.left in
    let q = abs_product c.args.times c.args.b (2 ^ 21) (2 ^ 102) c.requires.times c.requires.right in
    let s = abs_difference (c.args.factor *ℤ c.args.a) (c.args.times *ℤ c.args.b) (2 ^ 10 * 2 ^ 90) (2 ^ 21 * 2 ^ 102) p q in
    let f1 : FitsSigned w128 c.args.factor = fits _ _ c.requires.factor (lit< tt) in
    let f2 : FitsSigned w128 c.args.a = fits _ _ c.requires.left (lit< tt) in
    let f3 : FitsSigned w128 c.args.times = fits _ _ c.requires.times (lit< tt) in
    let f4 : FitsSigned w128 c.args.b = fits _ _ c.requires.right (lit< tt) in
    let f5 : FitsSigned w128 (c.args.factor *ℤ c.args.a) = fits _ _ p (lit< tt) in
    let f6 : FitsSigned w128 (c.args.times *ℤ c.args.b) = fits _ _ q (lit< tt) in
    let f7 : FitsSigned w128 (c.args.factor *ℤ c.args.a -ℤ c.args.times *ℤ c.args.b) = fits _ _ s (lit< tt) in
    simp to_z-of_z f7

pub returns : goal.returns
returns c =
    let p = abs_product c.args.factor c.args.a (2 ^ 10) (2 ^ 90) c.requires.factor c.requires.left in
    let q = abs_product c.args.times c.args.b (2 ^ 21) (2 ^ 102) c.requires.times c.requires.right in
    let s = abs_difference (c.args.factor *ℤ c.args.a) (c.args.times *ℤ c.args.b) (2 ^ 10 * 2 ^ 90) (2 ^ 21 * 2 ^ 102) p q in
    let f1 : FitsSigned w128 c.args.factor = fits _ _ c.requires.factor (lit< tt) in
    let f2 : FitsSigned w128 c.args.a = fits _ _ c.requires.left (lit< tt) in
    let f3 : FitsSigned w128 c.args.times = fits _ _ c.requires.times (lit< tt) in
    let f4 : FitsSigned w128 c.args.b = fits _ _ c.requires.right (lit< tt) in
    let f5 : FitsSigned w128 (c.args.factor *ℤ c.args.a) = fits _ _ p (lit< tt) in
    let f6 : FitsSigned w128 (c.args.times *ℤ c.args.b) = fits _ _ q (lit< tt) in
    let f7 : FitsSigned w128 (c.args.factor *ℤ c.args.a -ℤ c.args.times *ℤ c.args.b) = fits _ _ s (lit< tt) in
    simp to_z-of_z
