use Rattle.std.proofs.Common.{◌^◌, ◌++◌, [], ◌∷◌, ap, ◌∙◌, lit<}
use Rattle.std.specs.Prelude.{◌*ℤ◌}
use Rattle.std.specs.Int.{w128}
use Rattle.std.specs.Int.RustNames.{FitsSigned}
use Rattle.std.proofs.lemmas.Int.{to_z-of_z}
use Rattle.lp_cert.specs.Program.{entry}
use Rattle.lp_core.proofs.Fits.{fits, at_place, sign_times, sign_fits}
use Rattle.lp_core.proofs.search.only_bound.Goals as goal

pub overflow_mul-pivot : goal.overflow_mul-pivot
overflow_mul-pivot c =
    let p = c.args.pivot.now in
    let small = at_place (2 ^ 21) p.place c.args.objective p.inside c.requires in
    let product = sign_times p (entry c.args.objective p.place) (2 ^ 21) small in
    let f1 : FitsSigned w128 c.args.pivot.now.sign = sign_fits p in
    let f2 : FitsSigned w128 (entry c.args.objective c.args.pivot.now.place) = fits _ _ small (lit< tt) in
    let f3 : FitsSigned w128 (c.args.pivot.now.sign *ℤ entry c.args.objective c.args.pivot.now.place) = fits _ _ product (lit< tt) in
    simp to_z-of_z f3

pub returns : goal.returns
returns c =
    let p = c.args.pivot.now in
    let small = at_place (2 ^ 21) p.place c.args.objective p.inside c.requires in
    let product = sign_times p (entry c.args.objective p.place) (2 ^ 21) small in
    let f1 : FitsSigned w128 c.args.pivot.now.sign = sign_fits p in
    let f2 : FitsSigned w128 (entry c.args.objective c.args.pivot.now.place) = fits _ _ small (lit< tt) in
    let f3 : FitsSigned w128 (c.args.pivot.now.sign *ℤ entry c.args.objective c.args.pivot.now.place) = fits _ _ product (lit< tt) in
    let first = simp to_z-of_z at c.push.ensures in
    first ∙ ap (λ items. items ++ (c.args.r, p.sign *ℤ entry c.args.objective p.place) ∷ []) c.new-items.ensures
