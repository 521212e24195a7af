use Rattle.std.proofs.Common.{◌^◌, lit<, arith}
use Rattle.std.specs.Prelude.{◌*ℤ◌}
use Rattle.std.specs.Int.{w128}
use Rattle.std.specs.Int.RustNames.{FitsSigned}
use Rattle.std.proofs.lemmas.Int.{to_z-of_z}
use Rattle.exact_algebra.proofs.Order.{abs_product}
use Rattle.lp_cert.specs.Program.{entry}
use Rattle.lp_core.proofs.Fits.{fits, at_place, pivot_small}
use Rattle.lp_core.proofs.search.lifted.Goals as goal

pub overflow_mul-result : goal.overflow_mul-result
overflow_mul-result c =
    let p = c.args.pivot.now in
    let size = pivot_small p (2 ^ 10) (2 ^ 80) c.requires.own in
    let o = at_place (2 ^ 21) p.place c.args.objective p.inside c.requires.objective in
    let den = abs_product p.size c.args.inner.now.den (2 ^ 10) (2 ^ 10) size c.requires.den in
    let wanted = abs_product c.args.inner.now.den (entry c.args.objective p.place) (2 ^ 10) (2 ^ 21) c.requires.den o in
    let f1 : FitsSigned w128 c.args.pivot.now.size = fits _ _ size (lit< tt) in
    let f2 : FitsSigned w128 c.args.inner.now.den = fits _ _ c.requires.den (lit< tt) in
    let f3 : FitsSigned w128 (entry c.args.objective c.args.pivot.now.place) = fits _ _ o (lit< tt) in
    let f4 : FitsSigned w128 (c.args.pivot.now.size *ℤ c.args.inner.now.den) = fits _ _ den (lit< tt) in
    let f5 : FitsSigned w128 (c.args.inner.now.den *ℤ entry c.args.objective c.args.pivot.now.place) = fits _ _ wanted (lit< tt) in
    simp to_z-of_z f4

pub overflow_mul-inner : goal.overflow_mul-inner
overflow_mul-inner c =
    let p = c.args.pivot.now in
    let size = pivot_small p (2 ^ 10) (2 ^ 80) c.requires.own in
    let o = at_place (2 ^ 21) p.place c.args.objective p.inside c.requires.objective in
    let den = abs_product p.size c.args.inner.now.den (2 ^ 10) (2 ^ 10) size c.requires.den in
    let wanted = abs_product c.args.inner.now.den (entry c.args.objective p.place) (2 ^ 10) (2 ^ 21) c.requires.den o in
    let f1 : FitsSigned w128 c.args.pivot.now.size = fits _ _ size (lit< tt) in
    let f2 : FitsSigned w128 c.args.inner.now.den = fits _ _ c.requires.den (lit< tt) in
    let f3 : FitsSigned w128 (entry c.args.objective c.args.pivot.now.place) = fits _ _ o (lit< tt) in
    let f4 : FitsSigned w128 (c.args.pivot.now.size *ℤ c.args.inner.now.den) = fits _ _ den (lit< tt) in
    let f5 : FitsSigned w128 (c.args.inner.now.den *ℤ entry c.args.objective c.args.pivot.now.place) = fits _ _ wanted (lit< tt) in
    simp to_z-of_z f5

pub lifted_items-requires-clause-size : goal.lifted_items-requires-clause-size
lifted_items-requires-clause-size c =
    let p = c.args.pivot.now in
    let size = pivot_small p (2 ^ 10) (2 ^ 80) c.requires.own in
    let o = at_place (2 ^ 21) p.place c.args.objective p.inside c.requires.objective in
    let den = abs_product p.size c.args.inner.now.den (2 ^ 10) (2 ^ 10) size c.requires.den in
    let wanted = abs_product c.args.inner.now.den (entry c.args.objective p.place) (2 ^ 10) (2 ^ 21) c.requires.den o in
    let f1 : FitsSigned w128 c.args.pivot.now.size = fits _ _ size (lit< tt) in
    let f2 : FitsSigned w128 c.args.inner.now.den = fits _ _ c.requires.den (lit< tt) in
    let f3 : FitsSigned w128 (entry c.args.objective c.args.pivot.now.place) = fits _ _ o (lit< tt) in
    let f4 : FitsSigned w128 (c.args.pivot.now.size *ℤ c.args.inner.now.den) = fits _ _ den (lit< tt) in
    let f5 : FitsSigned w128 (c.args.inner.now.den *ℤ entry c.args.objective c.args.pivot.now.place) = fits _ _ wanted (lit< tt) in
    size

pub lifted_items-requires-clause-wanted : goal.lifted_items-requires-clause-wanted
lifted_items-requires-clause-wanted c =
    let p = c.args.pivot.now in
    let size = pivot_small p (2 ^ 10) (2 ^ 80) c.requires.own in
    let o = at_place (2 ^ 21) p.place c.args.objective p.inside c.requires.objective in
    let den = abs_product p.size c.args.inner.now.den (2 ^ 10) (2 ^ 10) size c.requires.den in
    let wanted = abs_product c.args.inner.now.den (entry c.args.objective p.place) (2 ^ 10) (2 ^ 21) c.requires.den o in
    let f1 : FitsSigned w128 c.args.pivot.now.size = fits _ _ size (lit< tt) in
    let f2 : FitsSigned w128 c.args.inner.now.den = fits _ _ c.requires.den (lit< tt) in
    let f3 : FitsSigned w128 (entry c.args.objective c.args.pivot.now.place) = fits _ _ o (lit< tt) in
    let f4 : FitsSigned w128 (c.args.pivot.now.size *ℤ c.args.inner.now.den) = fits _ _ den (lit< tt) in
    let f5 : FitsSigned w128 (c.args.inner.now.den *ℤ entry c.args.objective c.args.pivot.now.place) = fits _ _ wanted (lit< tt) in
    simp to_z-of_z (omega (arith, wanted))

pub returns-clause-den : goal.returns-clause-den
returns-clause-den c =
    let p = c.args.pivot.now in
    let size = pivot_small p (2 ^ 10) (2 ^ 80) c.requires.own in
    let o = at_place (2 ^ 21) p.place c.args.objective p.inside c.requires.objective in
    let den = abs_product p.size c.args.inner.now.den (2 ^ 10) (2 ^ 10) size c.requires.den in
    let wanted = abs_product c.args.inner.now.den (entry c.args.objective p.place) (2 ^ 10) (2 ^ 21) c.requires.den o in
    let f1 : FitsSigned w128 c.args.pivot.now.size = fits _ _ size (lit< tt) in
    let f2 : FitsSigned w128 c.args.inner.now.den = fits _ _ c.requires.den (lit< tt) in
    let f3 : FitsSigned w128 (entry c.args.objective c.args.pivot.now.place) = fits _ _ o (lit< tt) in
    let f4 : FitsSigned w128 (c.args.pivot.now.size *ℤ c.args.inner.now.den) = fits _ _ den (lit< tt) in
    let f5 : FitsSigned w128 (c.args.inner.now.den *ℤ entry c.args.objective c.args.pivot.now.place) = fits _ _ wanted (lit< tt) in
    simp to_z-of_z

pub returns-clause-items : goal.returns-clause-items
returns-clause-items c =
    let p = c.args.pivot.now in
    let size = pivot_small p (2 ^ 10) (2 ^ 80) c.requires.own in
    let o = at_place (2 ^ 21) p.place c.args.objective p.inside c.requires.objective in
    let den = abs_product p.size c.args.inner.now.den (2 ^ 10) (2 ^ 10) size c.requires.den in
    let wanted = abs_product c.args.inner.now.den (entry c.args.objective p.place) (2 ^ 10) (2 ^ 21) c.requires.den o in
    let f1 : FitsSigned w128 c.args.pivot.now.size = fits _ _ size (lit< tt) in
    let f2 : FitsSigned w128 c.args.inner.now.den = fits _ _ c.requires.den (lit< tt) in
    let f3 : FitsSigned w128 (entry c.args.objective c.args.pivot.now.place) = fits _ _ o (lit< tt) in
    let f4 : FitsSigned w128 (c.args.pivot.now.size *ℤ c.args.inner.now.den) = fits _ _ den (lit< tt) in
    let f5 : FitsSigned w128 (c.args.inner.now.den *ℤ entry c.args.objective c.args.pivot.now.place) = fits _ _ wanted (lit< tt) in
    let e = simp to_z-of_z at c.lifted_items.ensures in
    e
