use Rattle.std.proofs.Common.{◌≡◌, ◌≤◌, ◌-◌, arith, ap, sym, subst, ◌∙◌, lit<}
use Rattle.std.specs.Prelude.{pos, ◌*ℤ◌, ◌≤ℤ◌}
use Rattle.std.specs.Int.{w32, w128}
use Rattle.std.specs.Int.RustNames.{FitsSigned, unsigned_abs}
use Rattle.std.proofs.lemmas.Int.{ints, to_z-of_z}
use Rattle.bound_laws.proofs.Order.{at_most_along}
use Rattle.game_model.specs.SelfGeneration.{part}
use Rattle.level_table.specs.Problem.{discount_at}
use Rattle.exact_algebra.proofs.Fits.{fits32}
use Rattle.set_operator.proofs.Mosts.{times_upper}
use Rattle.set_operator.proofs.Programs.{direction_small}
use Rattle.set_operator.proofs.most.spread_part.Goals as goal

pub returns-clause-most : goal.returns-clause-most
returns-clause-most c =
    let small : unsigned_abs (part c.vector.result c.args.i) ≤ 3 = subst (λ v. unsigned_abs (part v c.args.i) ≤ 3) (sym c.vector.ensures) (direction_small c.args.p.now c.args.dir c.args.i c.rules.ensures c.requires.dir) in
    let f1 : FitsSigned w32 (part c.vector.result c.args.i) = fits32 (part c.vector.result c.args.i) 3 small (lit< tt) in
    let f2 : FitsSigned w128 c.most_of.result = record { sfits = c.most_of.type_inv } in
    let f3 : FitsSigned w128 c.scaled.result = record { sfits = c.scaled.type_inv } in
    let is : c.scaled.result ≡ pos (c.numerator.result - c.args.least) *ℤ c.most_of.result = simp to_z-of_z at c.scaled.ensures.value in
    let e : c.scaled.result ≡ pos (discount_at c.args.p.now c.args.i - c.args.least) *ℤ c.most_of.result = is ∙ ap (λ n. pos (n - c.args.least) *ℤ c.most_of.result) c.numerator.ensures.value in
    λ w y den positive within.
    let h : (part c.vector.result c.args.i *ℤ y) ≤ℤ (c.most_of.result *ℤ den) = simp to_z-of_z at (c.most_of.ensures.most y den positive within) in
    simp to_z-of_z (at_most_along
    (ap (λ v. pos (discount_at c.args.p.now c.args.i - c.args.least) *ℤ (part v c.args.i *ℤ y)) c.vector.ensures)
    (ap (λ r. r *ℤ den) (sym e))
    (times_upper (pos (discount_at c.args.p.now c.args.i - c.args.least)) (part c.vector.result c.args.i *ℤ y) c.most_of.result den (omega (arith, ints)) h))
