use Rattle.std.proofs.Common.{◌≤◌, ◌^◌, ◌++◌, [], ◌∷◌, ap, ◌∙◌, lit<, arith, rules}
use Rattle.std.specs.Prelude.{pos, ◌-ℤ◌, ◌*ℤ◌}
use Rattle.std.specs.Int.{w128}
use Rattle.std.specs.Int.RustNames.{FitsSigned, unsigned_abs}
use Rattle.std.proofs.lemmas.Int.{ints, to_z-of_z}
use Rattle.lp_cert.specs.Program.{entry}
use Rattle.lp_core.proofs.Fits.{fits, at_place, sign_times, sign_fits}
use Rattle.lp_core.proofs.search.crossing.Goals as goal

pub overflow_mul-pivot : goal.overflow_mul-pivot
overflow_mul-pivot c =
    let p = c.args.pivot.now in
    let small = at_place (2 ^ 10) p.place c.args.line.c p.inside c.requires in
    let product = sign_times p (entry c.args.line.c p.place) (2 ^ 10) small in
    let f1 : FitsSigned w128 c.args.pivot.now.sign = sign_fits p in
    let f2 : FitsSigned w128 (entry c.args.line.c c.args.pivot.now.place) = fits _ _ small (lit< tt) in
    let f3 : FitsSigned w128 (c.args.pivot.now.sign *ℤ entry c.args.line.c c.args.pivot.now.place) = fits _ _ product (lit< tt) in
    let negative : unsigned_abs (pos 0 -ℤ c.args.pivot.now.sign *ℤ entry c.args.line.c c.args.pivot.now.place) ≤ 2 ^ 10 = omega (arith, ints, product) in
    let f4 : FitsSigned w128 (pos 0 -ℤ c.args.pivot.now.sign *ℤ entry c.args.line.c c.args.pivot.now.place) = fits _ _ negative (lit< tt) in
    let f5 : FitsSigned w128 c.args.pivot.now.size = search rules in
    simp to_z-of_z f3

pub overflow_sub-pivot : goal.overflow_sub-pivot
overflow_sub-pivot c =
    let p = c.args.pivot.now in
    let small = at_place (2 ^ 10) p.place c.args.line.c p.inside c.requires in
    let product = sign_times p (entry c.args.line.c p.place) (2 ^ 10) small in
    let f1 : FitsSigned w128 c.args.pivot.now.sign = sign_fits p in
    let f2 : FitsSigned w128 (entry c.args.line.c c.args.pivot.now.place) = fits _ _ small (lit< tt) in
    let f3 : FitsSigned w128 (c.args.pivot.now.sign *ℤ entry c.args.line.c c.args.pivot.now.place) = fits _ _ product (lit< tt) in
    let negative : unsigned_abs (pos 0 -ℤ c.args.pivot.now.sign *ℤ entry c.args.line.c c.args.pivot.now.place) ≤ 2 ^ 10 = omega (arith, ints, product) in
    let f4 : FitsSigned w128 (pos 0 -ℤ c.args.pivot.now.sign *ℤ entry c.args.line.c c.args.pivot.now.place) = fits _ _ negative (lit< tt) in
    let f5 : FitsSigned w128 c.args.pivot.now.size = search rules in
    simp to_z-of_z f4

pub returns : goal.returns
returns c =
    let p = c.args.pivot.now in
    let small = at_place (2 ^ 10) p.place c.args.line.c p.inside c.requires in
    let product = sign_times p (entry c.args.line.c p.place) (2 ^ 10) small in
    let f1 : FitsSigned w128 c.args.pivot.now.sign = sign_fits p in
    let f2 : FitsSigned w128 (entry c.args.line.c c.args.pivot.now.place) = fits _ _ small (lit< tt) in
    let f3 : FitsSigned w128 (c.args.pivot.now.sign *ℤ entry c.args.line.c c.args.pivot.now.place) = fits _ _ product (lit< tt) in
    let negative : unsigned_abs (pos 0 -ℤ c.args.pivot.now.sign *ℤ entry c.args.line.c c.args.pivot.now.place) ≤ 2 ^ 10 = omega (arith, ints, product) in
    let f4 : FitsSigned w128 (pos 0 -ℤ c.args.pivot.now.sign *ℤ entry c.args.line.c c.args.pivot.now.place) = fits _ _ negative (lit< tt) in
    let f5 : FitsSigned w128 c.args.pivot.now.size = search rules in
    let first = simp to_z-of_z at c.push.ensures in
    let second = simp to_z-of_z at c.push-2.ensures in
    second ∙ ap (λ items. items ++ (c.args.r, pos 0 -ℤ p.sign *ℤ entry c.args.line.c p.place) ∷ []) (first ∙ ap (λ items. items ++ (c.args.l, p.size) ∷ []) c.new-items.ensures)
