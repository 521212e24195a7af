use Rattle.std.proofs.Common.{◌≡◌, ◌^◌, length, lit<, arith, rules}
use Rattle.std.specs.Prelude.{◌*ℤ◌}
use Rattle.std.specs.Int.{w128}
use Rattle.std.specs.Int.RustNames.{FitsSigned}
use Rattle.std.proofs.lemmas.Int.{to_z-of_z}
use Rattle.lp_cert.specs.Program.{entry}
use Rattle.lp_core.proofs.Fits.{fits, at_place, pivot_small, sign_times, sign_fits}
use Rattle.lp_core.proofs.Views.{rest_unique}
use Rattle.lp_core.proofs.pivot.Pivot.rest.Goals as goal

pub overflow_mul-self : goal.overflow_mul-self
overflow_mul-self c =
    let p = c.args.self.now in
    let small = at_place (2 ^ 21) p.place c.args.objective p.inside c.requires.small in
    let product = sign_times p (entry c.args.objective p.place) (2 ^ 21) small in
    let f1 : FitsSigned w128 c.args.self.now.sign = sign_fits p in
    let f2 : FitsSigned w128 (entry c.args.objective c.args.self.now.place) = fits _ _ small (lit< tt) in
    let f3 : FitsSigned w128 (c.args.self.now.sign *ℤ entry c.args.objective c.args.self.now.place) = fits _ _ product (lit< tt) in
    let size = pivot_small p (2 ^ 10) (2 ^ 80) c.requires.own in
    let f4 : FitsSigned w128 c.args.self.now.size = fits _ _ size (lit< tt) in
    simp to_z-of_z f3

pub combined-requires-clause-times : goal.combined-requires-clause-times
combined-requires-clause-times c =
    let p = c.args.self.now in
    let small = at_place (2 ^ 21) p.place c.args.objective p.inside c.requires.small in
    let product = sign_times p (entry c.args.objective p.place) (2 ^ 21) small in
    let f1 : FitsSigned w128 c.args.self.now.sign = sign_fits p in
    let f2 : FitsSigned w128 (entry c.args.objective c.args.self.now.place) = fits _ _ small (lit< tt) in
    let f3 : FitsSigned w128 (c.args.self.now.sign *ℤ entry c.args.objective c.args.self.now.place) = fits _ _ product (lit< tt) in
    let size = pivot_small p (2 ^ 10) (2 ^ 80) c.requires.own in
    let f4 : FitsSigned w128 c.args.self.now.size = fits _ _ size (lit< tt) in
    simp to_z-of_z (omega (arith, product))

pub returns : goal.returns
returns c =
    let p = c.args.self.now in
    let small = at_place (2 ^ 21) p.place c.args.objective p.inside c.requires.small in
    let product = sign_times p (entry c.args.objective p.place) (2 ^ 21) small in
    let f1 : FitsSigned w128 c.args.self.now.sign = sign_fits p in
    let f2 : FitsSigned w128 (entry c.args.objective c.args.self.now.place) = fits _ _ small (lit< tt) in
    let f3 : FitsSigned w128 (c.args.self.now.sign *ℤ entry c.args.objective c.args.self.now.place) = fits _ _ product (lit< tt) in
    let size = pivot_small p (2 ^ 10) (2 ^ 80) c.requires.own in
    let f4 : FitsSigned w128 c.args.self.now.size = fits _ _ size (lit< tt) in
    let m = simp to_z-of_z at c.combined.ensures in
    let three : length c.combined.result ≡ 3 = search rules in
    rest_unique p c.args.objective c.combined.result three m
