use Rattle.std.proofs.Common.{◌≡◌, ◌^◌, lit<, lit≤, arith}
use Rattle.std.specs.Prelude.{◌*ℤ◌}
use Rattle.std.specs.Int.{w128}
use Rattle.std.specs.Int.RustNames.{FitsSigned}
use Rattle.std.proofs.lemmas.Int.{ints, to_z-of_z}
use Rattle.exact_algebra.proofs.Order.{abs_product}
use Rattle.lp_core.specs.Lines.{along}
use Rattle.lp_core.proofs.Fits.{fits, more}
use Rattle.lp_core.proofs.reduced.meets.Goals as goal

pub product-requires-clause-left : goal.product-requires-clause-left
product-requires-clause-left c = more (2 ^ 10) (2 ^ 21) c.args.line.c (lit≤ tt) c.requires.small.entries

pub overflow_mul-result : goal.overflow_mul-result
overflow_mul-result c =
    let p = abs_product c.args.line.h c.args.den (2 ^ 80) (2 ^ 10) c.requires.small.side c.requires.den in
    let f1 : FitsSigned w128 c.args.line.h = fits _ _ c.requires.small.side (lit< tt) in
    let f2 : FitsSigned w128 c.args.den = fits _ _ c.requires.den (lit< tt) in
    simp to_z-of_z (fits _ _ p (lit< tt))

pub returns : goal.returns
returns c =
    let p = abs_product c.args.line.h c.args.den (2 ^ 80) (2 ^ 10) c.requires.small.side c.requires.den in
    let f1 : FitsSigned w128 c.args.line.h = fits _ _ c.requires.small.side (lit< tt) in
    let f2 : FitsSigned w128 c.args.den = fits _ _ c.requires.den (lit< tt) in
    let f3 : FitsSigned w128 (c.args.line.h *ℤ c.args.den) = fits _ _ p (lit< tt) in
    let f4 : FitsSigned w128 c.product.result = record { sfits = c.product.type_inv } in
    let e : c.product.result ≡ along c.args.line.c c.args.num = c.product.ensures in
    simp to_z-of_z (grind (arith, ints))
