use Rattle.std.proofs.Common.{◌≡◌, ◌≤◌, ◌*◌, ◌^◌, ◌∙◌, ap, arith, FitsSigned, rules}
use Rattle.std.specs.Prelude.{ℤ, pos, ◌*ℤ◌, unsigned_abs}
use mir.Syntax.{w128}
use Rattle.std.proofs.lemmas.Int.{to_z-of_z}
use Rattle.exact_algebra.proofs.Order.{abs_product}
use Rattle.selfgen_check.proofs.sums.weighed.Goals as goal

pub scaled-requires-clause-weight : goal.scaled-requires-clause-weight
scaled-requires-clause-weight c = let h : unsigned_abs (pos c.args.count *ℤ c.args.weights) ≤ 1024 * 2 ^ 85 = abs_product (pos c.args.count) c.args.weights 1024 (2 ^ 85) c.requires.count c.requires.weights in
    let f : FitsSigned w128 c.share.result = search rules in
    let e : c.share.result ≡ pos c.args.count *ℤ c.args.weights = c.share.ensures.product ∙ ap (λ (x : ℤ). pos c.args.count *ℤ x) (to_z-of_z w128 c.args.weights c.ranges.weights) in
    rw (to_z-of_z w128 c.share.result f, e) (omega (arith, h))
