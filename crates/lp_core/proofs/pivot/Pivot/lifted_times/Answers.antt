use Rattle.std.proofs.Common.{◌≡◌, ◌*◌, ◌≤◌, ◌^◌, lit<, lit≤, sym, ap, subst}
use Rattle.std.specs.Prelude.{◌*ℤ◌}
use Rattle.std.specs.Int.{w128}
use Rattle.std.specs.Int.RustNames.{FitsSigned, unsigned_abs}
use Rattle.std.proofs.lemmas.Int.{to_z-of_z}
use Rattle.exact_algebra.proofs.Order.{abs_product}
use Rattle.lp_core.specs.Elimination.{factor_of}
use Rattle.lp_core.proofs.Steps.{factor_small}
use Rattle.lp_core.proofs.Fits.{fits}
use Rattle.lp_core.proofs.pivot.Pivot.lifted_times.Goals as goal

pub overflow_mul-result : goal.overflow_mul-result
overflow_mul-result c =
    let factor : unsigned_abs (factor_of c.args.self.now c.args.line) ≤ 2 ^ 10 = factor_small c.args.self.now c.args.line (2 ^ 10) (lit≤ tt) c.requires.size in
    let product = abs_product (factor_of c.args.self.now c.args.line) c.args.times (2 ^ 10) (2 ^ 20) factor c.requires.times in
    let is : c.factor.result ≡ factor_of c.args.self.now c.args.line = c.factor.ensures in
    let small : unsigned_abs (c.factor.result *ℤ c.args.times) ≤ 2 ^ 10 * 2 ^ 20 = subst (λ z. unsigned_abs (z *ℤ c.args.times) ≤ 2 ^ 10 * 2 ^ 20) (sym is) product in
    let f1 : FitsSigned w128 c.factor.result = fits _ _ (subst (λ z. unsigned_abs z ≤ 2 ^ 10) (sym is) factor) (lit< tt) in
    let f2 : FitsSigned w128 c.args.times = fits _ _ c.requires.times (lit< tt) in
    let f3 : FitsSigned w128 (c.factor.result *ℤ c.args.times) = fits _ _ small (lit< tt) in
    simp to_z-of_z f3

pub returns : goal.returns
returns c =
    let factor : unsigned_abs (factor_of c.args.self.now c.args.line) ≤ 2 ^ 10 = factor_small c.args.self.now c.args.line (2 ^ 10) (lit≤ tt) c.requires.size in
    let product = abs_product (factor_of c.args.self.now c.args.line) c.args.times (2 ^ 10) (2 ^ 20) factor c.requires.times in
    let is : c.factor.result ≡ factor_of c.args.self.now c.args.line = c.factor.ensures in
    let small : unsigned_abs (c.factor.result *ℤ c.args.times) ≤ 2 ^ 10 * 2 ^ 20 = subst (λ z. unsigned_abs (z *ℤ c.args.times) ≤ 2 ^ 10 * 2 ^ 20) (sym is) product in
    let f1 : FitsSigned w128 c.factor.result = fits _ _ (subst (λ z. unsigned_abs z ≤ 2 ^ 10) (sym is) factor) (lit< tt) in
    let f2 : FitsSigned w128 c.args.times = fits _ _ c.requires.times (lit< tt) in
    let f3 : FitsSigned w128 (c.factor.result *ℤ c.args.times) = fits _ _ small (lit< tt) in
    simp to_z-of_z (ap (λ z. z *ℤ c.args.times) is)
