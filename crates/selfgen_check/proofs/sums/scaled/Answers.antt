use Rattle.std.proofs.Common.{◌^◌, lit<}
use mir.Syntax.{w128}
use Rattle.exact_algebra.proofs.Order.{abs_product}
use Rattle.exact_algebra.proofs.Fits.{product_is}
use Rattle.selfgen_check.proofs.sums.scaled.Goals as goal

pub returns-clause-product : goal.returns-clause-product
returns-clause-product c = product_is w128 c.args.weight c.args.units (2 ^ 95) (2 ^ 30) c.ranges.weight c.ranges.units c.requires.weight c.requires.units (lit< tt)

pub returns-clause-small : goal.returns-clause-small
returns-clause-small c = rw (product_is w128 c.args.weight c.args.units (2 ^ 95) (2 ^ 30) c.ranges.weight c.ranges.units c.requires.weight c.requires.units (lit< tt)) (abs_product c.args.weight c.args.units (2 ^ 95) (2 ^ 30) c.requires.weight c.requires.units)
