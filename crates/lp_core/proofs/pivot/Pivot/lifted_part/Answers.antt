use Rattle.std.proofs.Common.{◌*◌, ◌^◌, lit<}
use Rattle.std.specs.Prelude.{◌+ℤ◌, ◌*ℤ◌}
use Rattle.std.specs.Int.{w128}
use Rattle.std.specs.Int.RustNames.{FitsSigned}
use Rattle.std.proofs.lemmas.Int.{to_z-of_z}
use Rattle.exact_algebra.proofs.Order.{abs_product, abs_sum}
use Rattle.lp_core.proofs.Fits.{fits, pivot_small}
use Rattle.lp_core.proofs.pivot.Pivot.lifted_part.Goals as goal

pub overflow_mul-result : goal.overflow_mul-result
overflow_mul-result c =
    let p = c.args.self.now in
    let size = pivot_small p (2 ^ 10) (2 ^ 80) c.requires.own in
    let product = abs_product p.size c.args.part (2 ^ 10) (2 ^ 90) size c.requires.part in
    let sum = abs_sum (p.size *ℤ c.args.part) c.args.way (2 ^ 10 * 2 ^ 90) (2 ^ 110) product c.requires.way in
    let f1 : FitsSigned w128 c.args.self.now.size = fits _ _ size (lit< tt) in
    let f2 : FitsSigned w128 c.args.part = fits _ _ c.requires.part (lit< tt) in
    let f3 : FitsSigned w128 c.args.way = fits _ _ c.requires.way (lit< tt) in
    let f4 : FitsSigned w128 (c.args.self.now.size *ℤ c.args.part) = fits _ _ product (lit< tt) in
    let f5 : FitsSigned w128 (c.args.self.now.size *ℤ c.args.part +ℤ c.args.way) = fits _ _ sum (lit< tt) in
    simp to_z-of_z f4

pub overflow_add-result : goal.overflow_add-result
overflow_add-result c =
    let p = c.args.self.now in
    let size = pivot_small p (2 ^ 10) (2 ^ 80) c.requires.own in
    let product = abs_product p.size c.args.part (2 ^ 10) (2 ^ 90) size c.requires.part in
    let sum = abs_sum (p.size *ℤ c.args.part) c.args.way (2 ^ 10 * 2 ^ 90) (2 ^ 110) product c.requires.way in
    let f1 : FitsSigned w128 c.args.self.now.size = fits _ _ size (lit< tt) in
    let f2 : FitsSigned w128 c.args.part = fits _ _ c.requires.part (lit< tt) in
    let f3 : FitsSigned w128 c.args.way = fits _ _ c.requires.way (lit< tt) in
    let f4 : FitsSigned w128 (c.args.self.now.size *ℤ c.args.part) = fits _ _ product (lit< tt) in
    let f5 : FitsSigned w128 (c.args.self.now.size *ℤ c.args.part +ℤ c.args.way) = fits _ _ sum (lit< tt) in
    simp to_z-of_z f5

pub overflow_mul-result-else-k-self : goal.overflow_mul-result-else-k-self
overflow_mul-result-else-k-self c =
    let p = c.args.self.now in
    let size = pivot_small p (2 ^ 10) (2 ^ 80) c.requires.own in
    let product = abs_product p.size c.args.part (2 ^ 10) (2 ^ 90) size c.requires.part in
    let sum = abs_sum (p.size *ℤ c.args.part) c.args.way (2 ^ 10 * 2 ^ 90) (2 ^ 110) product c.requires.way in
    let f1 : FitsSigned w128 c.args.self.now.size = fits _ _ size (lit< tt) in
    let f2 : FitsSigned w128 c.args.part = fits _ _ c.requires.part (lit< tt) in
    let f3 : FitsSigned w128 c.args.way = fits _ _ c.requires.way (lit< tt) in
    let f4 : FitsSigned w128 (c.args.self.now.size *ℤ c.args.part) = fits _ _ product (lit< tt) in
    let f5 : FitsSigned w128 (c.args.self.now.size *ℤ c.args.part +ℤ c.args.way) = fits _ _ sum (lit< tt) in
    simp to_z-of_z f4

pub returns-then-k-self-clause-moved : goal.returns-then-k-self-clause-moved
returns-then-k-self-clause-moved c =
    let p = c.args.self.now in
    let size = pivot_small p (2 ^ 10) (2 ^ 80) c.requires.own in
    let product = abs_product p.size c.args.part (2 ^ 10) (2 ^ 90) size c.requires.part in
    let sum = abs_sum (p.size *ℤ c.args.part) c.args.way (2 ^ 10 * 2 ^ 90) (2 ^ 110) product c.requires.way in
    let f1 : FitsSigned w128 c.args.self.now.size = fits _ _ size (lit< tt) in
    let f2 : FitsSigned w128 c.args.part = fits _ _ c.requires.part (lit< tt) in
    let f3 : FitsSigned w128 c.args.way = fits _ _ c.requires.way (lit< tt) in
    let f4 : FitsSigned w128 (c.args.self.now.size *ℤ c.args.part) = fits _ _ product (lit< tt) in
    let f5 : FitsSigned w128 (c.args.self.now.size *ℤ c.args.part +ℤ c.args.way) = fits _ _ sum (lit< tt) in
    λ e. simp to_z-of_z

pub returns-else-k-self-clause-others : goal.returns-else-k-self-clause-others
returns-else-k-self-clause-others c =
    let p = c.args.self.now in
    let size = pivot_small p (2 ^ 10) (2 ^ 80) c.requires.own in
    let product = abs_product p.size c.args.part (2 ^ 10) (2 ^ 90) size c.requires.part in
    let sum = abs_sum (p.size *ℤ c.args.part) c.args.way (2 ^ 10 * 2 ^ 90) (2 ^ 110) product c.requires.way in
    let f1 : FitsSigned w128 c.args.self.now.size = fits _ _ size (lit< tt) in
    let f2 : FitsSigned w128 c.args.part = fits _ _ c.requires.part (lit< tt) in
    let f3 : FitsSigned w128 c.args.way = fits _ _ c.requires.way (lit< tt) in
    let f4 : FitsSigned w128 (c.args.self.now.size *ℤ c.args.part) = fits _ _ product (lit< tt) in
    let f5 : FitsSigned w128 (c.args.self.now.size *ℤ c.args.part +ℤ c.args.way) = fits _ _ sum (lit< tt) in
    λ e. simp to_z-of_z
