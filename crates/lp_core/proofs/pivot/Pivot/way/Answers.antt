use Rattle.std.proofs.Common.{◌≤◌, ◌^◌, lit<, sym, subst}
use Rattle.std.specs.Prelude.{◌*ℤ◌}
use Rattle.std.specs.Int.{w128}
use Rattle.std.specs.Int.RustNames.{FitsSigned, unsigned_abs}
use Rattle.std.proofs.lemmas.Int.{to_z-of_z}
use Rattle.lp_core.proofs.Steps.{way_is, product_small, difference_small}
use Rattle.lp_core.proofs.Fits.{fits, sign_times, sign_fits}
use Rattle.lp_core.proofs.pivot.Pivot.way.Goals as goal

pub difference-requires-clause-right : goal.difference-requires-clause-right
difference-requires-clause-right c =
    let p = c.args.self.now in
    let a : unsigned_abs c.product.result ≤ 2 ^ 102 = subst (λ z. unsigned_abs z ≤ 2 ^ 102) (sym c.product.ensures) (product_small p c.args.num c.requires.own c.requires.num) in
    let f1 : FitsSigned w128 c.args.self.now.sign = sign_fits p in
    let f2 : FitsSigned w128 c.product.result = fits _ _ a (lit< tt) in
    let f3 : FitsSigned w128 c.args.den = fits _ _ c.requires.den (lit< tt) in
    let f4 : FitsSigned w128 c.args.self.now.line.h = fits _ _ c.requires.own.side (lit< tt) in
    simp to_z-of_z a

pub overflow_mul-result : goal.overflow_mul-result
overflow_mul-result c =
    let p = c.args.self.now in
    let a : unsigned_abs c.product.result ≤ 2 ^ 102 = subst (λ z. unsigned_abs z ≤ 2 ^ 102) (sym c.product.ensures) (product_small p c.args.num c.requires.own c.requires.num) in
    let f1 : FitsSigned w128 c.args.self.now.sign = sign_fits p in
    let f2 : FitsSigned w128 c.product.result = fits _ _ a (lit< tt) in
    let f3 : FitsSigned w128 c.args.den = fits _ _ c.requires.den (lit< tt) in
    let f4 : FitsSigned w128 c.args.self.now.line.h = fits _ _ c.requires.own.side (lit< tt) in
    let e = simp to_z-of_z at c.difference.ensures in
    let d : unsigned_abs c.difference.result ≤ 2 ^ 110 = subst (λ z. unsigned_abs z ≤ 2 ^ 110) (sym e) (difference_small p c.args.num c.args.den c.product.result c.requires.own c.requires.den a) in
    let s = sign_times p c.difference.result (2 ^ 110) d in
    let f5 : FitsSigned w128 c.difference.result = fits _ _ d (lit< tt) in
    let f6 : FitsSigned w128 (c.args.self.now.sign *ℤ c.difference.result) = fits _ _ s (lit< tt) in
    simp to_z-of_z f6

pub returns-clause-value : goal.returns-clause-value
returns-clause-value c =
    let p = c.args.self.now in
    let a : unsigned_abs c.product.result ≤ 2 ^ 102 = subst (λ z. unsigned_abs z ≤ 2 ^ 102) (sym c.product.ensures) (product_small p c.args.num c.requires.own c.requires.num) in
    let f1 : FitsSigned w128 c.args.self.now.sign = sign_fits p in
    let f2 : FitsSigned w128 c.product.result = fits _ _ a (lit< tt) in
    let f3 : FitsSigned w128 c.args.den = fits _ _ c.requires.den (lit< tt) in
    let f4 : FitsSigned w128 c.args.self.now.line.h = fits _ _ c.requires.own.side (lit< tt) in
    let e = simp to_z-of_z at c.difference.ensures in
    let d : unsigned_abs c.difference.result ≤ 2 ^ 110 = subst (λ z. unsigned_abs z ≤ 2 ^ 110) (sym e) (difference_small p c.args.num c.args.den c.product.result c.requires.own c.requires.den a) in
    let s = sign_times p c.difference.result (2 ^ 110) d in
    let f5 : FitsSigned w128 c.difference.result = fits _ _ d (lit< tt) in
    let f6 : FitsSigned w128 (c.args.self.now.sign *ℤ c.difference.result) = fits _ _ s (lit< tt) in
    simp to_z-of_z (way_is p c.args.num c.args.den c.difference.result c.product.result c.product.ensures e)

pub returns-clause-small : goal.returns-clause-small
returns-clause-small c =
    let p = c.args.self.now in
    let a : unsigned_abs c.product.result ≤ 2 ^ 102 = subst (λ z. unsigned_abs z ≤ 2 ^ 102) (sym c.product.ensures) (product_small p c.args.num c.requires.own c.requires.num) in
    let f1 : FitsSigned w128 c.args.self.now.sign = sign_fits p in
    let f2 : FitsSigned w128 c.product.result = fits _ _ a (lit< tt) in
    let f3 : FitsSigned w128 c.args.den = fits _ _ c.requires.den (lit< tt) in
    let f4 : FitsSigned w128 c.args.self.now.line.h = fits _ _ c.requires.own.side (lit< tt) in
    let e = simp to_z-of_z at c.difference.ensures in
    let d : unsigned_abs c.difference.result ≤ 2 ^ 110 = subst (λ z. unsigned_abs z ≤ 2 ^ 110) (sym e) (difference_small p c.args.num c.args.den c.product.result c.requires.own c.requires.den a) in
    let s = sign_times p c.difference.result (2 ^ 110) d in
    let f5 : FitsSigned w128 c.difference.result = fits _ _ d (lit< tt) in
    let f6 : FitsSigned w128 (c.args.self.now.sign *ℤ c.difference.result) = fits _ _ s (lit< tt) in
    simp to_z-of_z s
