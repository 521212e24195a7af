use Rattle.std.proofs.Common.{◌≤◌, ◌^◌, ◌*◌, arith, sym, subst, ap, lit<}
use Rattle.std.specs.Prelude.{◌*ℤ◌}
use Rattle.std.specs.Int.{w32, w64, w128}
use Rattle.std.specs.Int.RustNames.{FitsSigned, unsigned_abs}
use Rattle.std.proofs.lemmas.Int.{to_z-of_z}
use Rattle.exact_algebra.proofs.Order.{abs_product}
use Rattle.exact_algebra.proofs.Fits.{fits32, fits64, fits128}
use Rattle.game_model.specs.SelfGeneration.{part}
use Rattle.set_operator.specs.Boxes.{stage_at}
use Rattle.set_operator.proofs.Fits.{product128}
use Rattle.set_operator.proofs.Programs.{direction_small}
use Rattle.set_operator.proofs.program.stage_part.Goals as goal

pub overflow_mul-result : goal.overflow_mul-result
overflow_mul-result c =
    let small : unsigned_abs (part c.vector.result c.args.i) ≤ 3 = subst (λ v. unsigned_abs (part v c.args.i) ≤ 3) (sym c.vector.ensures) (direction_small c.args.p.now c.args.dir c.args.i c.rules.ensures c.requires.dir) in
    let stage : unsigned_abs (stage_at c.args.found.now c.args.i) ≤ 2 ^ 60 = c.requires.small c.args.i in
    let f1 : FitsSigned w32 (part c.vector.result c.args.i) = fits32 (part c.vector.result c.args.i) 3 small (lit< tt) in
    let f2 : FitsSigned w128 (part c.vector.result c.args.i) = fits128 (part c.vector.result c.args.i) 3 small (lit< tt) in
    let f3 : FitsSigned w64 (stage_at c.args.found.now c.args.i) = fits64 (stage_at c.args.found.now c.args.i) (2 ^ 60) stage (lit< tt) in
    let f4 : FitsSigned w128 (stage_at c.args.found.now c.args.i) = fits128 (stage_at c.args.found.now c.args.i) (2 ^ 60) stage (lit< tt) in
    simp to_z-of_z (product128 (part c.vector.result c.args.i) (stage_at c.args.found.now c.args.i) 3 (2 ^ 60) small stage (lit< tt))

pub returns-clause-value : goal.returns-clause-value
returns-clause-value c =
    let small : unsigned_abs (part c.vector.result c.args.i) ≤ 3 = subst (λ v. unsigned_abs (part v c.args.i) ≤ 3) (sym c.vector.ensures) (direction_small c.args.p.now c.args.dir c.args.i c.rules.ensures c.requires.dir) in
    let stage : unsigned_abs (stage_at c.args.found.now c.args.i) ≤ 2 ^ 60 = c.requires.small c.args.i in
    let f1 : FitsSigned w32 (part c.vector.result c.args.i) = fits32 (part c.vector.result c.args.i) 3 small (lit< tt) in
    let f2 : FitsSigned w128 (part c.vector.result c.args.i) = fits128 (part c.vector.result c.args.i) 3 small (lit< tt) in
    let f3 : FitsSigned w64 (stage_at c.args.found.now c.args.i) = fits64 (stage_at c.args.found.now c.args.i) (2 ^ 60) stage (lit< tt) in
    let f4 : FitsSigned w128 (stage_at c.args.found.now c.args.i) = fits128 (stage_at c.args.found.now c.args.i) (2 ^ 60) stage (lit< tt) in
    let f5 : FitsSigned w128 (part c.vector.result c.args.i *ℤ stage_at c.args.found.now c.args.i) = product128 (part c.vector.result c.args.i) (stage_at c.args.found.now c.args.i) 3 (2 ^ 60) small stage (lit< tt) in
    simp to_z-of_z (ap (λ v. part v c.args.i *ℤ stage_at c.args.found.now c.args.i) c.vector.ensures)

pub returns-clause-bound : goal.returns-clause-bound
returns-clause-bound c =
    let small : unsigned_abs (part c.vector.result c.args.i) ≤ 3 = subst (λ v. unsigned_abs (part v c.args.i) ≤ 3) (sym c.vector.ensures) (direction_small c.args.p.now c.args.dir c.args.i c.rules.ensures c.requires.dir) in
    let stage : unsigned_abs (stage_at c.args.found.now c.args.i) ≤ 2 ^ 60 = c.requires.small c.args.i in
    let f1 : FitsSigned w32 (part c.vector.result c.args.i) = fits32 (part c.vector.result c.args.i) 3 small (lit< tt) in
    let f2 : FitsSigned w128 (part c.vector.result c.args.i) = fits128 (part c.vector.result c.args.i) 3 small (lit< tt) in
    let f3 : FitsSigned w64 (stage_at c.args.found.now c.args.i) = fits64 (stage_at c.args.found.now c.args.i) (2 ^ 60) stage (lit< tt) in
    let f4 : FitsSigned w128 (stage_at c.args.found.now c.args.i) = fits128 (stage_at c.args.found.now c.args.i) (2 ^ 60) stage (lit< tt) in
    let bound : unsigned_abs (part c.vector.result c.args.i *ℤ stage_at c.args.found.now c.args.i) ≤ 3 * 2 ^ 60 = abs_product (part c.vector.result c.args.i) (stage_at c.args.found.now c.args.i) 3 (2 ^ 60) small stage in
    let f5 : FitsSigned w128 (part c.vector.result c.args.i *ℤ stage_at c.args.found.now c.args.i) = product128 (part c.vector.result c.args.i) (stage_at c.args.found.now c.args.i) 3 (2 ^ 60) small stage (lit< tt) in
    simp to_z-of_z (omega arith)
