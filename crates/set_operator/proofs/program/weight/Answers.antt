use Rattle.std.proofs.Common.{◌≡◌, ◌≤◌, ◌<◌, ◌^◌, ◌*◌, arith, sym, ◌∙◌, ap, subst, lit<, to_z}
use Rattle.std.specs.Prelude.{pos, ◌*ℤ◌, slice_index}
use Rattle.std.specs.Int.{w32}
use Rattle.std.specs.Int.RustNames.{FitsSigned, unsigned_abs}
use Rattle.std.proofs.lemmas.Int.{to_z-of_z, to_z_pos}
use Rattle.exact_algebra.proofs.Order.{abs_product}
use Rattle.exact_algebra.proofs.Fits.{fits32}
use Rattle.game_model.specs.SelfGeneration.{part}
use Rattle.level_table.specs.Problem.{IsProblem, discount_at}
use Rattle.set_operator.proofs.Programs.{direction_small}
use Rattle.set_operator.proofs.program.weight.Goals as goal

pub overflow_mul-result : goal.overflow_mul-result
overflow_mul-result c =
    let ok : IsProblem c.args.p.now = c.rules.ensures in
    let player : c.args.i < c.args.p.now.game.players = omega (arith, c.if-i-players.false, c.players.ensures) in
    let is : c.discount_of-numerator.result.0 ≡ discount_at c.args.p.now c.args.i = c.discount_of-numerator.ensures.numerator ∙ ap (λ g. slice_index g.discounts c.args.i) c.game.ensures.game in
    let few : c.discount_of-numerator.result.0 ≤ 1024 = omega (arith, is, ok.game.discounts_below c.args.i player, ok.game.q_small) in
    let e : to_z w32 c.discount_of-numerator.result.0 ≡ pos c.discount_of-numerator.result.0 = to_z_pos w32 c.discount_of-numerator.result.0 (let l : 1024 < 2 ^ 31 = lit< tt in omega arith) in
    let small : unsigned_abs (part c.vector.result c.args.i) ≤ 3 = subst (λ v. unsigned_abs (part v c.args.i) ≤ 3) (sym c.vector.ensures) (direction_small c.args.p.now c.args.dir c.args.i ok c.requires.dir) in
    let f1 : FitsSigned w32 (part c.vector.result c.args.i) = fits32 (part c.vector.result c.args.i) 3 small (lit< tt) in
    let bound : unsigned_abs (pos c.discount_of-numerator.result.0 *ℤ part c.vector.result c.args.i) ≤ 1024 * 3 = abs_product (pos c.discount_of-numerator.result.0) (part c.vector.result c.args.i) 1024 3 few small in
    let f2 : FitsSigned w32 (pos c.discount_of-numerator.result.0 *ℤ part c.vector.result c.args.i) = fits32 (pos c.discount_of-numerator.result.0 *ℤ part c.vector.result c.args.i) (1024 * 3) bound (lit< tt) in
    simp (to_z-of_z, e) f2

pub returns-clause-value : goal.returns-clause-value
returns-clause-value c =
    let ok : IsProblem c.args.p.now = c.rules.ensures in
    let player : c.args.i < c.args.p.now.game.players = omega (arith, c.if-i-players.false, c.players.ensures) in
    let is : c.discount_of-numerator.result.0 ≡ discount_at c.args.p.now c.args.i = c.discount_of-numerator.ensures.numerator ∙ ap (λ g. slice_index g.discounts c.args.i) c.game.ensures.game in
    let few : c.discount_of-numerator.result.0 ≤ 1024 = omega (arith, is, ok.game.discounts_below c.args.i player, ok.game.q_small) in
    let e : to_z w32 c.discount_of-numerator.result.0 ≡ pos c.discount_of-numerator.result.0 = to_z_pos w32 c.discount_of-numerator.result.0 (let l : 1024 < 2 ^ 31 = lit< tt in omega arith) in
    let small : unsigned_abs (part c.vector.result c.args.i) ≤ 3 = subst (λ v. unsigned_abs (part v c.args.i) ≤ 3) (sym c.vector.ensures) (direction_small c.args.p.now c.args.dir c.args.i ok c.requires.dir) in
    let f1 : FitsSigned w32 (part c.vector.result c.args.i) = fits32 (part c.vector.result c.args.i) 3 small (lit< tt) in
    let bound : unsigned_abs (pos c.discount_of-numerator.result.0 *ℤ part c.vector.result c.args.i) ≤ 1024 * 3 = abs_product (pos c.discount_of-numerator.result.0) (part c.vector.result c.args.i) 1024 3 few small in
    let f2 : FitsSigned w32 (pos c.discount_of-numerator.result.0 *ℤ part c.vector.result c.args.i) = fits32 (pos c.discount_of-numerator.result.0 *ℤ part c.vector.result c.args.i) (1024 * 3) bound (lit< tt) in
    λ w. simp (to_z-of_z, e) (ap (λ m. pos m *ℤ part c.vector.result c.args.i) is ∙ ap (λ v. pos (discount_at c.args.p.now c.args.i) *ℤ part v c.args.i) c.vector.ensures)

pub returns-clause-small : goal.returns-clause-small
returns-clause-small c =
    let ok : IsProblem c.args.p.now = c.rules.ensures in
    let player : c.args.i < c.args.p.now.game.players = omega (arith, c.if-i-players.false, c.players.ensures) in
    let is : c.discount_of-numerator.result.0 ≡ discount_at c.args.p.now c.args.i = c.discount_of-numerator.ensures.numerator ∙ ap (λ g. slice_index g.discounts c.args.i) c.game.ensures.game in
    let few : c.discount_of-numerator.result.0 ≤ 1024 = omega (arith, is, ok.game.discounts_below c.args.i player, ok.game.q_small) in
    let e : to_z w32 c.discount_of-numerator.result.0 ≡ pos c.discount_of-numerator.result.0 = to_z_pos w32 c.discount_of-numerator.result.0 (let l : 1024 < 2 ^ 31 = lit< tt in omega arith) in
    let small : unsigned_abs (part c.vector.result c.args.i) ≤ 3 = subst (λ v. unsigned_abs (part v c.args.i) ≤ 3) (sym c.vector.ensures) (direction_small c.args.p.now c.args.dir c.args.i ok c.requires.dir) in
    let f1 : FitsSigned w32 (part c.vector.result c.args.i) = fits32 (part c.vector.result c.args.i) 3 small (lit< tt) in
    let bound : unsigned_abs (pos c.discount_of-numerator.result.0 *ℤ part c.vector.result c.args.i) ≤ 1024 * 3 = abs_product (pos c.discount_of-numerator.result.0) (part c.vector.result c.args.i) 1024 3 few small in
    let f2 : FitsSigned w32 (pos c.discount_of-numerator.result.0 *ℤ part c.vector.result c.args.i) = fits32 (pos c.discount_of-numerator.result.0 *ℤ part c.vector.result c.args.i) (1024 * 3) bound (lit< tt) in
    simp (to_z-of_z, e) (omega arith)
