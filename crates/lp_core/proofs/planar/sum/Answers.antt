use Rattle.std.proofs.Common.{◌^◌, lit<}
use Rattle.std.specs.Prelude.{◌+ℤ◌, ◌*ℤ◌}
use Rattle.std.specs.Int.{w64}
use Rattle.std.specs.Int.RustNames.{FitsSigned}
use Rattle.std.proofs.lemmas.Int.{to_z-of_z}
use Rattle.exact_algebra.proofs.Order.{abs_product}
use Rattle.lp_core.proofs.Narrow.{narrow, sum_within}
use Rattle.lp_core.proofs.planar.sum.Goals as goal

pub overflow_add-result : goal.overflow_add-result
overflow_add-result c =
    let p = abs_product c.args.factor c.args.a 18 (2 ^ 57) c.requires.factor c.requires.left in
    let q = abs_product c.args.times c.args.b 18 (2 ^ 57) c.requires.times c.requires.right in
    let s = sum_within c.args.factor c.args.a c.args.times c.args.b 18 (2 ^ 57) 18 (2 ^ 57) c.requires.factor c.requires.left c.requires.times c.requires.right in
    let f1 = c.ranges.factor in
    let f2 = c.ranges.a in
    let f3 = c.ranges.times in
    let f4 = c.ranges.b in
    let f5 : FitsSigned w64 (c.args.factor *ℤ c.args.a) = narrow _ _ p (lit< tt) in
    let f6 : FitsSigned w64 (c.args.times *ℤ c.args.b) = narrow _ _ q (lit< tt) in
    let f7 : FitsSigned w64 (c.args.factor *ℤ c.args.a +ℤ c.args.times *ℤ c.args.b) = narrow _ _ s (lit< tt) in
    simp to_z-of_z f7

pub returns : goal.returns
returns c =
    let p = abs_product c.args.factor c.args.a 18 (2 ^ 57) c.requires.factor c.requires.left in
    let q = abs_product c.args.times c.args.b 18 (2 ^ 57) c.requires.times c.requires.right in
    let s = sum_within c.args.factor c.args.a c.args.times c.args.b 18 (2 ^ 57) 18 (2 ^ 57) c.requires.factor c.requires.left c.requires.times c.requires.right in
    let f1 = c.ranges.factor in
    let f2 = c.ranges.a in
    let f3 = c.ranges.times in
    let f4 = c.ranges.b in
    let f5 : FitsSigned w64 (c.args.factor *ℤ c.args.a) = narrow _ _ p (lit< tt) in
    let f6 : FitsSigned w64 (c.args.times *ℤ c.args.b) = narrow _ _ q (lit< tt) in
    let f7 : FitsSigned w64 (c.args.factor *ℤ c.args.a +ℤ c.args.times *ℤ c.args.b) = narrow _ _ s (lit< tt) in
    simp to_z-of_z
