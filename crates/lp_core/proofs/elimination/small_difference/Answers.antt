use Rattle.std.proofs.Common.{◌^◌, lit<}
use Rattle.std.specs.Prelude.{◌-ℤ◌, ◌*ℤ◌}
use Rattle.std.specs.Int.{w64, w128}
use Rattle.std.specs.Int.RustNames.{FitsSigned}
use Rattle.std.proofs.lemmas.Int.{to_z-of_z}
use Rattle.exact_algebra.proofs.Order.{abs_product}
use Rattle.lp_core.proofs.Fits.{fits}
use Rattle.lp_core.proofs.Narrow.{narrow, difference_within}
use Rattle.lp_core.proofs.elimination.small_difference.Goals as goal

pub overflow_cast-kept : goal.overflow_cast-kept
overflow_cast-kept c =
    let p = abs_product c.args.factor c.args.a (2 ^ 10) (2 ^ 21) c.requires.factor c.requires.left in
    let q = abs_product c.args.times c.args.b (2 ^ 21) (2 ^ 10) c.requires.times c.requires.right in
    let s = difference_within c.args.factor c.args.a c.args.times c.args.b (2 ^ 10) (2 ^ 21) (2 ^ 21) (2 ^ 10) c.requires.factor c.requires.left c.requires.times c.requires.right in
    let f1 : FitsSigned w64 c.args.factor = narrow _ _ c.requires.factor (lit< tt) in
    let f2 : FitsSigned w64 c.args.a = narrow _ _ c.requires.left (lit< tt) in
    let f3 : FitsSigned w64 c.args.times = narrow _ _ c.requires.times (lit< tt) in
    let f4 : FitsSigned w64 c.args.b = narrow _ _ c.requires.right (lit< tt) in
    let g1 : FitsSigned w128 c.args.factor = fits _ _ c.requires.factor (lit< tt) in
    let g2 : FitsSigned w128 c.args.a = fits _ _ c.requires.left (lit< tt) in
    let g3 : FitsSigned w128 c.args.times = fits _ _ c.requires.times (lit< tt) in
    let g4 : FitsSigned w128 c.args.b = fits _ _ c.requires.right (lit< tt) in
    let f5 : FitsSigned w64 (c.args.factor *ℤ c.args.a) = narrow _ _ p (lit< tt) in
    let f6 : FitsSigned w64 (c.args.times *ℤ c.args.b) = narrow _ _ q (lit< tt) in
    let f7 : FitsSigned w64 (c.args.factor *ℤ c.args.a -ℤ c.args.times *ℤ c.args.b) = narrow _ _ s (lit< tt) in
    let g7 : FitsSigned w128 (c.args.factor *ℤ c.args.a -ℤ c.args.times *ℤ c.args.b) = fits _ _ s (lit< tt) in
    simp to_z-of_z f1

pub overflow_cast-kept-2 : goal.overflow_cast-kept-2
overflow_cast-kept-2 c =
    let p = abs_product c.args.factor c.args.a (2 ^ 10) (2 ^ 21) c.requires.factor c.requires.left in
    let q = abs_product c.args.times c.args.b (2 ^ 21) (2 ^ 10) c.requires.times c.requires.right in
    let s = difference_within c.args.factor c.args.a c.args.times c.args.b (2 ^ 10) (2 ^ 21) (2 ^ 21) (2 ^ 10) c.requires.factor c.requires.left c.requires.times c.requires.right in
    let f1 : FitsSigned w64 c.args.factor = narrow _ _ c.requires.factor (lit< tt) in
    let f2 : FitsSigned w64 c.args.a = narrow _ _ c.requires.left (lit< tt) in
    let f3 : FitsSigned w64 c.args.times = narrow _ _ c.requires.times (lit< tt) in
    let f4 : FitsSigned w64 c.args.b = narrow _ _ c.requires.right (lit< tt) in
    let g1 : FitsSigned w128 c.args.factor = fits _ _ c.requires.factor (lit< tt) in
    let g2 : FitsSigned w128 c.args.a = fits _ _ c.requires.left (lit< tt) in
    let g3 : FitsSigned w128 c.args.times = fits _ _ c.requires.times (lit< tt) in
    let g4 : FitsSigned w128 c.args.b = fits _ _ c.requires.right (lit< tt) in
    let f5 : FitsSigned w64 (c.args.factor *ℤ c.args.a) = narrow _ _ p (lit< tt) in
    let f6 : FitsSigned w64 (c.args.times *ℤ c.args.b) = narrow _ _ q (lit< tt) in
    let f7 : FitsSigned w64 (c.args.factor *ℤ c.args.a -ℤ c.args.times *ℤ c.args.b) = narrow _ _ s (lit< tt) in
    let g7 : FitsSigned w128 (c.args.factor *ℤ c.args.a -ℤ c.args.times *ℤ c.args.b) = fits _ _ s (lit< tt) in
    simp to_z-of_z f2

pub overflow_mul-kept : goal.overflow_mul-kept
overflow_mul-kept c =
    let p = abs_product c.args.factor c.args.a (2 ^ 10) (2 ^ 21) c.requires.factor c.requires.left in
    let q = abs_product c.args.times c.args.b (2 ^ 21) (2 ^ 10) c.requires.times c.requires.right in
    let s = difference_within c.args.factor c.args.a c.args.times c.args.b (2 ^ 10) (2 ^ 21) (2 ^ 21) (2 ^ 10) c.requires.factor c.requires.left c.requires.times c.requires.right in
    let f1 : FitsSigned w64 c.args.factor = narrow _ _ c.requires.factor (lit< tt) in
    let f2 : FitsSigned w64 c.args.a = narrow _ _ c.requires.left (lit< tt) in
    let f3 : FitsSigned w64 c.args.times = narrow _ _ c.requires.times (lit< tt) in
    let f4 : FitsSigned w64 c.args.b = narrow _ _ c.requires.right (lit< tt) in
    let g1 : FitsSigned w128 c.args.factor = fits _ _ c.requires.factor (lit< tt) in
    let g2 : FitsSigned w128 c.args.a = fits _ _ c.requires.left (lit< tt) in
    let g3 : FitsSigned w128 c.args.times = fits _ _ c.requires.times (lit< tt) in
    let g4 : FitsSigned w128 c.args.b = fits _ _ c.requires.right (lit< tt) in
    let f5 : FitsSigned w64 (c.args.factor *ℤ c.args.a) = narrow _ _ p (lit< tt) in
    let f6 : FitsSigned w64 (c.args.times *ℤ c.args.b) = narrow _ _ q (lit< tt) in
    let f7 : FitsSigned w64 (c.args.factor *ℤ c.args.a -ℤ c.args.times *ℤ c.args.b) = narrow _ _ s (lit< tt) in
    let g7 : FitsSigned w128 (c.args.factor *ℤ c.args.a -ℤ c.args.times *ℤ c.args.b) = fits _ _ s (lit< tt) in
    simp to_z-of_z f5

pub overflow_cast-gone : goal.overflow_cast-gone
overflow_cast-gone c =
    let p = abs_product c.args.factor c.args.a (2 ^ 10) (2 ^ 21) c.requires.factor c.requires.left in
    let q = abs_product c.args.times c.args.b (2 ^ 21) (2 ^ 10) c.requires.times c.requires.right in
    let s = difference_within c.args.factor c.args.a c.args.times c.args.b (2 ^ 10) (2 ^ 21) (2 ^ 21) (2 ^ 10) c.requires.factor c.requires.left c.requires.times c.requires.right in
    let f1 : FitsSigned w64 c.args.factor = narrow _ _ c.requires.factor (lit< tt) in
    let f2 : FitsSigned w64 c.args.a = narrow _ _ c.requires.left (lit< tt) in
    let f3 : FitsSigned w64 c.args.times = narrow _ _ c.requires.times (lit< tt) in
    let f4 : FitsSigned w64 c.args.b = narrow _ _ c.requires.right (lit< tt) in
    let g1 : FitsSigned w128 c.args.factor = fits _ _ c.requires.factor (lit< tt) in
    let g2 : FitsSigned w128 c.args.a = fits _ _ c.requires.left (lit< tt) in
    let g3 : FitsSigned w128 c.args.times = fits _ _ c.requires.times (lit< tt) in
    let g4 : FitsSigned w128 c.args.b = fits _ _ c.requires.right (lit< tt) in
    let f5 : FitsSigned w64 (c.args.factor *ℤ c.args.a) = narrow _ _ p (lit< tt) in
    let f6 : FitsSigned w64 (c.args.times *ℤ c.args.b) = narrow _ _ q (lit< tt) in
    let f7 : FitsSigned w64 (c.args.factor *ℤ c.args.a -ℤ c.args.times *ℤ c.args.b) = narrow _ _ s (lit< tt) in
    let g7 : FitsSigned w128 (c.args.factor *ℤ c.args.a -ℤ c.args.times *ℤ c.args.b) = fits _ _ s (lit< tt) in
    simp to_z-of_z f3

pub overflow_cast-gone-2 : goal.overflow_cast-gone-2
overflow_cast-gone-2 c =
    let p = abs_product c.args.factor c.args.a (2 ^ 10) (2 ^ 21) c.requires.factor c.requires.left in
    let q = abs_product c.args.times c.args.b (2 ^ 21) (2 ^ 10) c.requires.times c.requires.right in
    let s = difference_within c.args.factor c.args.a c.args.times c.args.b (2 ^ 10) (2 ^ 21) (2 ^ 21) (2 ^ 10) c.requires.factor c.requires.left c.requires.times c.requires.right in
    let f1 : FitsSigned w64 c.args.factor = narrow _ _ c.requires.factor (lit< tt) in
    let f2 : FitsSigned w64 c.args.a = narrow _ _ c.requires.left (lit< tt) in
    let f3 : FitsSigned w64 c.args.times = narrow _ _ c.requires.times (lit< tt) in
    let f4 : FitsSigned w64 c.args.b = narrow _ _ c.requires.right (lit< tt) in
    let g1 : FitsSigned w128 c.args.factor = fits _ _ c.requires.factor (lit< tt) in
    let g2 : FitsSigned w128 c.args.a = fits _ _ c.requires.left (lit< tt) in
    let g3 : FitsSigned w128 c.args.times = fits _ _ c.requires.times (lit< tt) in
    let g4 : FitsSigned w128 c.args.b = fits _ _ c.requires.right (lit< tt) in
    let f5 : FitsSigned w64 (c.args.factor *ℤ c.args.a) = narrow _ _ p (lit< tt) in
    let f6 : FitsSigned w64 (c.args.times *ℤ c.args.b) = narrow _ _ q (lit< tt) in
    let f7 : FitsSigned w64 (c.args.factor *ℤ c.args.a -ℤ c.args.times *ℤ c.args.b) = narrow _ _ s (lit< tt) in
    let g7 : FitsSigned w128 (c.args.factor *ℤ c.args.a -ℤ c.args.times *ℤ c.args.b) = fits _ _ s (lit< tt) in
    simp to_z-of_z f4

pub overflow_mul-gone : goal.overflow_mul-gone
overflow_mul-gone c =
    let p = abs_product c.args.factor c.args.a (2 ^ 10) (2 ^ 21) c.requires.factor c.requires.left in
    let q = abs_product c.args.times c.args.b (2 ^ 21) (2 ^ 10) c.requires.times c.requires.right in
    let s = difference_within c.args.factor c.args.a c.args.times c.args.b (2 ^ 10) (2 ^ 21) (2 ^ 21) (2 ^ 10) c.requires.factor c.requires.left c.requires.times c.requires.right in
    let f1 : FitsSigned w64 c.args.factor = narrow _ _ c.requires.factor (lit< tt) in
    let f2 : FitsSigned w64 c.args.a = narrow _ _ c.requires.left (lit< tt) in
    let f3 : FitsSigned w64 c.args.times = narrow _ _ c.requires.times (lit< tt) in
    let f4 : FitsSigned w64 c.args.b = narrow _ _ c.requires.right (lit< tt) in
    let g1 : FitsSigned w128 c.args.factor = fits _ _ c.requires.factor (lit< tt) in
    let g2 : FitsSigned w128 c.args.a = fits _ _ c.requires.left (lit< tt) in
    let g3 : FitsSigned w128 c.args.times = fits _ _ c.requires.times (lit< tt) in
    let g4 : FitsSigned w128 c.args.b = fits _ _ c.requires.right (lit< tt) in
    let f5 : FitsSigned w64 (c.args.factor *ℤ c.args.a) = narrow _ _ p (lit< tt) in
    let f6 : FitsSigned w64 (c.args.times *ℤ c.args.b) = narrow _ _ q (lit< tt) in
    let f7 : FitsSigned w64 (c.args.factor *ℤ c.args.a -ℤ c.args.times *ℤ c.args.b) = narrow _ _ s (lit< tt) in
    let g7 : FitsSigned w128 (c.args.factor *ℤ c.args.a -ℤ c.args.times *ℤ c.args.b) = fits _ _ s (lit< tt) in
    simp to_z-of_z f6

pub overflow_sub-result : goal.overflow_sub-result
overflow_sub-result c =
    let p = abs_product c.args.factor c.args.a (2 ^ 10) (2 ^ 21) c.requires.factor c.requires.left in
    let q = abs_product c.args.times c.args.b (2 ^ 21) (2 ^ 10) c.requires.times c.requires.right in
    let s = difference_within c.args.factor c.args.a c.args.times c.args.b (2 ^ 10) (2 ^ 21) (2 ^ 21) (2 ^ 10) c.requires.factor c.requires.left c.requires.times c.requires.right in
    let f1 : FitsSigned w64 c.args.factor = narrow _ _ c.requires.factor (lit< tt) in
    let f2 : FitsSigned w64 c.args.a = narrow _ _ c.requires.left (lit< tt) in
    let f3 : FitsSigned w64 c.args.times = narrow _ _ c.requires.times (lit< tt) in
    let f4 : FitsSigned w64 c.args.b = narrow _ _ c.requires.right (lit< tt) in
    let g1 : FitsSigned w128 c.args.factor = fits _ _ c.requires.factor (lit< tt) in
    let g2 : FitsSigned w128 c.args.a = fits _ _ c.requires.left (lit< tt) in
    let g3 : FitsSigned w128 c.args.times = fits _ _ c.requires.times (lit< tt) in
    let g4 : FitsSigned w128 c.args.b = fits _ _ c.requires.right (lit< tt) in
    let f5 : FitsSigned w64 (c.args.factor *ℤ c.args.a) = narrow _ _ p (lit< tt) in
    let f6 : FitsSigned w64 (c.args.times *ℤ c.args.b) = narrow _ _ q (lit< tt) in
    let f7 : FitsSigned w64 (c.args.factor *ℤ c.args.a -ℤ c.args.times *ℤ c.args.b) = narrow _ _ s (lit< tt) in
    let g7 : FitsSigned w128 (c.args.factor *ℤ c.args.a -ℤ c.args.times *ℤ c.args.b) = fits _ _ s (lit< tt) in
    simp to_z-of_z f7

pub overflow_cast-result : goal.overflow_cast-result
overflow_cast-result c =
    let p = abs_product c.args.factor c.args.a (2 ^ 10) (2 ^ 21) c.requires.factor c.requires.left in
    let q = abs_product c.args.times c.args.b (2 ^ 21) (2 ^ 10) c.requires.times c.requires.right in
    let s = difference_within c.args.factor c.args.a c.args.times c.args.b (2 ^ 10) (2 ^ 21) (2 ^ 21) (2 ^ 10) c.requires.factor c.requires.left c.requires.times c.requires.right in
    let f1 : FitsSigned w64 c.args.factor = narrow _ _ c.requires.factor (lit< tt) in
    let f2 : FitsSigned w64 c.args.a = narrow _ _ c.requires.left (lit< tt) in
    let f3 : FitsSigned w64 c.args.times = narrow _ _ c.requires.times (lit< tt) in
    let f4 : FitsSigned w64 c.args.b = narrow _ _ c.requires.right (lit< tt) in
    let g1 : FitsSigned w128 c.args.factor = fits _ _ c.requires.factor (lit< tt) in
    let g2 : FitsSigned w128 c.args.a = fits _ _ c.requires.left (lit< tt) in
    let g3 : FitsSigned w128 c.args.times = fits _ _ c.requires.times (lit< tt) in
    let g4 : FitsSigned w128 c.args.b = fits _ _ c.requires.right (lit< tt) in
    let f5 : FitsSigned w64 (c.args.factor *ℤ c.args.a) = narrow _ _ p (lit< tt) in
    let f6 : FitsSigned w64 (c.args.times *ℤ c.args.b) = narrow _ _ q (lit< tt) in
    let f7 : FitsSigned w64 (c.args.factor *ℤ c.args.a -ℤ c.args.times *ℤ c.args.b) = narrow _ _ s (lit< tt) in
    let g7 : FitsSigned w128 (c.args.factor *ℤ c.args.a -ℤ c.args.times *ℤ c.args.b) = fits _ _ s (lit< tt) in
    simp to_z-of_z g7

pub returns : goal.returns
returns c =
    let p = abs_product c.args.factor c.args.a (2 ^ 10) (2 ^ 21) c.requires.factor c.requires.left in
    let q = abs_product c.args.times c.args.b (2 ^ 21) (2 ^ 10) c.requires.times c.requires.right in
    let s = difference_within c.args.factor c.args.a c.args.times c.args.b (2 ^ 10) (2 ^ 21) (2 ^ 21) (2 ^ 10) c.requires.factor c.requires.left c.requires.times c.requires.right in
    let f1 : FitsSigned w64 c.args.factor = narrow _ _ c.requires.factor (lit< tt) in
    let f2 : FitsSigned w64 c.args.a = narrow _ _ c.requires.left (lit< tt) in
    let f3 : FitsSigned w64 c.args.times = narrow _ _ c.requires.times (lit< tt) in
    let f4 : FitsSigned w64 c.args.b = narrow _ _ c.requires.right (lit< tt) in
    let g1 : FitsSigned w128 c.args.factor = fits _ _ c.requires.factor (lit< tt) in
    let g2 : FitsSigned w128 c.args.a = fits _ _ c.requires.left (lit< tt) in
    let g3 : FitsSigned w128 c.args.times = fits _ _ c.requires.times (lit< tt) in
    let g4 : FitsSigned w128 c.args.b = fits _ _ c.requires.right (lit< tt) in
    let f5 : FitsSigned w64 (c.args.factor *ℤ c.args.a) = narrow _ _ p (lit< tt) in
    let f6 : FitsSigned w64 (c.args.times *ℤ c.args.b) = narrow _ _ q (lit< tt) in
    let f7 : FitsSigned w64 (c.args.factor *ℤ c.args.a -ℤ c.args.times *ℤ c.args.b) = narrow _ _ s (lit< tt) in
    let g7 : FitsSigned w128 (c.args.factor *ℤ c.args.a -ℤ c.args.times *ℤ c.args.b) = fits _ _ s (lit< tt) in
    simp to_z-of_z
