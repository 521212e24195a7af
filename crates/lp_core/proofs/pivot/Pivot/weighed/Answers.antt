use Rattle.std.proofs.Common.{◌^◌, lit<, arith}
use Rattle.std.specs.Prelude.{◌*ℤ◌}
use Rattle.std.specs.Int.{w128}
use Rattle.std.specs.Int.RustNames.{FitsSigned}
use Rattle.std.proofs.lemmas.Int.{to_z-of_z}
use Rattle.exact_algebra.proofs.Order.{abs_product}
use Rattle.lp_cert.specs.Program.{entry}
use Rattle.lp_core.proofs.Fits.{fits, at_place}
use Rattle.lp_core.proofs.pivot.Pivot.weighed.Goals as goal

pub overflow_mul-result : goal.overflow_mul-result
overflow_mul-result c =
    let small = at_place (2 ^ 10) c.args.self.now.place c.args.line.c c.args.self.now.inside c.requires.small in
    let product = abs_product c.args.times (entry c.args.line.c c.args.self.now.place) (2 ^ 20) (2 ^ 10) c.requires.times small in
    let f1 : FitsSigned w128 c.args.times = fits _ _ c.requires.times (lit< tt) in
    let f2 : FitsSigned w128 (entry c.args.line.c c.args.self.now.place) = fits _ _ small (lit< tt) in
    let f3 : FitsSigned w128 (c.args.times *ℤ entry c.args.line.c c.args.self.now.place) = fits _ _ product (lit< tt) in
    simp to_z-of_z f3

pub returns-clause-value : goal.returns-clause-value
returns-clause-value c =
    let small = at_place (2 ^ 10) c.args.self.now.place c.args.line.c c.args.self.now.inside c.requires.small in
    let product = abs_product c.args.times (entry c.args.line.c c.args.self.now.place) (2 ^ 20) (2 ^ 10) c.requires.times small in
    let f1 : FitsSigned w128 c.args.times = fits _ _ c.requires.times (lit< tt) in
    let f2 : FitsSigned w128 (entry c.args.line.c c.args.self.now.place) = fits _ _ small (lit< tt) in
    let f3 : FitsSigned w128 (c.args.times *ℤ entry c.args.line.c c.args.self.now.place) = fits _ _ product (lit< tt) in
    simp to_z-of_z

pub returns-clause-bound : goal.returns-clause-bound
returns-clause-bound c =
    let small = at_place (2 ^ 10) c.args.self.now.place c.args.line.c c.args.self.now.inside c.requires.small in
    let product = abs_product c.args.times (entry c.args.line.c c.args.self.now.place) (2 ^ 20) (2 ^ 10) c.requires.times small in
    let f1 : FitsSigned w128 c.args.times = fits _ _ c.requires.times (lit< tt) in
    let f2 : FitsSigned w128 (entry c.args.line.c c.args.self.now.place) = fits _ _ small (lit< tt) in
    let f3 : FitsSigned w128 (c.args.times *ℤ entry c.args.line.c c.args.self.now.place) = fits _ _ product (lit< tt) in
    simp to_z-of_z (omega (arith, product))
