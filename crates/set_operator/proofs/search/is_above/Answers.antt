-- the products fit
use Rattle.std.proofs.Common.{◌^◌, ◌≤◌, arith, rules, lit<}
use Rattle.std.specs.Int.{w128}
use Rattle.std.specs.Int.RustNames.{unsigned_abs}
use Rattle.std.proofs.lemmas.Int.{ints}
use Rattle.exact_algebra.proofs.Order.{abs_within}
use Rattle.exact_algebra.proofs.Fits.{product_is}
use Rattle.set_operator.proofs.search.is_above.Goals as goal

pub returns : goal.returns
returns c =
    let best_den : unsigned_abs c.args.best.now.point.den ≤ 2 ^ 20 = abs_within c.args.best.now.point.den (2 ^ 20) (omega (arith, ints, c.requires.best.positive)) c.requires.best.den_small in
    let den : unsigned_abs c.args.den ≤ 2 ^ 20 = abs_within c.args.den (2 ^ 20) (omega (arith, ints, c.requires.positive)) c.requires.den in
    let left = product_is w128 c.args.best.now.value c.args.den (2 ^ 103) (2 ^ 20) (search rules) c.ranges.den c.requires.best.value_small den (lit< tt) in
    let right = product_is w128 c.args.value c.args.best.now.point.den (2 ^ 103) (2 ^ 20) c.ranges.value (search rules) c.requires.value best_den (lit< tt) in
    rw (left, right) (search rules)
