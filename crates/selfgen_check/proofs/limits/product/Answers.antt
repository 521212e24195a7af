use Rattle.std.proofs.Common.{◌^◌, lit<}
use mir.Syntax.{w128}
use Rattle.exact_algebra.proofs.Fits.{product_is}
use Rattle.selfgen_check.proofs.limits.product.Goals as goal

pub returns : goal.returns
returns c = product_is w128 c.args.a c.args.b (2 ^ 63) (2 ^ 63) c.ranges.a c.ranges.b c.requires.first c.requires.second (lit< tt)
