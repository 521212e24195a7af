-- a small factor times a small payoff
use Rattle.std.proofs.Common.{◌^◌, ◌≤◌, lit<, ℤ, ◌*ℤ◌, FitsSigned, w64}
use Rattle.std.specs.Int.RustNames.{unsigned_abs}
use Rattle.std.proofs.Common.{rules, arith, ap, ◌∙◌}
use Rattle.exact_algebra.proofs.Order.{abs_product}
use Rattle.exact_algebra.proofs.Fits.{product_fits, product_is}
use Rattle.level_table.proofs.Sizes.{payoff_small}
use Rattle.level_table.proofs.openings.payoff_times.Goals as goal

pub overflow_mul-result : goal.overflow_mul-result
overflow_mul-result c =
    let low : unsigned_abs c.payoff.result ≤ 2 ^ 26 = rw c.payoff.ensures (payoff_small c.args.game.now c.args.s c.args.a c.args.i c.requires.game c.requires.state c.requires.profile c.requires.player) in
    let fits : FitsSigned w64 c.payoff.result = search rules in
    product_fits w64 c.args.factor c.payoff.result 3 (2 ^ 26) c.ranges.factor fits c.requires.small low (lit< tt)

pub returns-clause-product : goal.returns-clause-product
returns-clause-product c =
    let low : unsigned_abs c.payoff.result ≤ 2 ^ 26 = rw c.payoff.ensures (payoff_small c.args.game.now c.args.s c.args.a c.args.i c.requires.game c.requires.state c.requires.profile c.requires.player) in
    let fits : FitsSigned w64 c.payoff.result = search rules in
    product_is w64 c.args.factor c.payoff.result 3 (2 ^ 26) c.ranges.factor fits c.requires.small low (lit< tt) ∙ ap (λ (x : ℤ). c.args.factor *ℤ x) c.payoff.ensures

pub returns-clause-small : goal.returns-clause-small
returns-clause-small c =
    let low : unsigned_abs c.payoff.result ≤ 2 ^ 26 = rw c.payoff.ensures (payoff_small c.args.game.now c.args.s c.args.a c.args.i c.requires.game c.requires.state c.requires.profile c.requires.player) in
    let fits : FitsSigned w64 c.payoff.result = search rules in
    rw (product_is w64 c.args.factor c.payoff.result 3 (2 ^ 26) c.ranges.factor fits c.requires.small low (lit< tt))
    (omega (arith, abs_product c.args.factor c.payoff.result 3 (2 ^ 26) c.requires.small low))
