use Rattle.std.proofs.Common.{◌≡◌, ◌*◌, ◌≤◌, ◌^◌, length, sym, ap, subst, ◌∙◌, arith, lit<, rules}
use Rattle.std.specs.Prelude.{pos, ◌<ℤ◌, All}
use Rattle.std.specs.Int.{w128}
use Rattle.std.specs.Int.RustNames.{FitsSigned, unsigned_abs}
use Rattle.std.proofs.lemmas.Int.{to_z-of_z}
use Rattle.exact_algebra.specs.Sums.{dot}
use Rattle.lp_cert.specs.Certificate.{AreSmall, ProvesBound, ProvesEmpty}
use Rattle.lp_cert.proofs.Duality.{none_meets}
use Rattle.lp_core.specs.Lines.{along, all_seen}
use Rattle.lp_core.specs.Planar.{whole_of}
use Rattle.lp_core.specs.Search.{IsBest}
use Rattle.lp_core.specs.Sizes.{AreAtMost, num_most, level}
use Rattle.lp_core.proofs.Along.{abs_along, along_dot}
use Rattle.lp_core.proofs.Filters.{all_positive, kept_small, kept_bound, kept_empty}
use Rattle.lp_core.proofs.Fits.{each_part, fits, more}
use Rattle.lp_core.proofs.Halves.{whole_is}
use Rattle.lp_core.proofs.Levels.{num_within, den_bound, dual_bound, farkas_bound, items_fit}
use Rattle.lp_core.proofs.Wholes.{whole_meets, whole_bound, whole_none}
use Rattle.lp_core.proofs.solve.Goals as goal

pub returns-in-Best-clause-best : goal.returns-in-Best-clause-best
returns-in-Best-clause-best c =
    let p = c.args.rows.now in
    let q = whole_of c.args.rows.now in
    let o = c.args.objective in
    let b = c.in-Best.best in
    let n = level q.live in
    let three : length c.args.objective ≡ 3 = search rules in
    let best : IsBest all_seen q o b = c.in-Best.ensures.outcome in
    let small : unsigned_abs b.den ≤ 2 ^ 10 = omega (arith, best.den, den_bound n) in
    let parts : length c.in-Best.best.num ≡ 3 = search rules in
    let num : AreAtMost (2 ^ 88) b.num = more (num_most n) (2 ^ 88) b.num (num_within n) best.num in
    let objective : AreAtMost 4096 o = record {
      first = c.requires.objective 0 (pos 0) (omega (arith, three));
      second = c.requires.objective 1 (pos 0) (omega (arith, three));
      third = c.requires.objective 2 (pos 0) (omega (arith, three));
    } in
    let value : unsigned_abs (along o b.num) ≤ 3 * (4096 * 2 ^ 88) = abs_along o b.num 4096 (2 ^ 88) objective num in
    let f1 : FitsSigned w128 c.in-Best.best.den = fits _ _ small (lit< tt) in
    let f2 : FitsSigned w128 c.product-value.result = record { sfits = c.product-value.type_inv } in
    let is : c.product-value.result ≡ along o b.num = c.product-value.ensures ∙ ap (λ o. along o b.num) c.widened.ensures in
    let reaches : dot o b.num ≡ c.product-value.result = along_dot o b.num three ∙ sym is in
    let bound = whole_bound p q c.outcome.ensures.program (whole_is c.args.rows.now) o b.items (along o b.num) b.den best.met.positive best.dual in
    simp to_z-of_z (record {
      meets = whole_meets p q c.outcome.ensures.program (whole_is c.args.rows.now) b.num b.den best.met;
      reaches = reaches;
      proves = subst (λ xs. ProvesBound p o xs c.product-value.result b.den) (sym c.without_zeros.ensures) (kept_bound p o b.items c.product-value.result b.den (subst (λ z. ProvesBound p o b.items z b.den) (sym is) bound));
      small = subst (λ xs. AreSmall xs) (sym c.without_zeros.ensures) (kept_small b.items (items_fit _ _ b.items (dual_bound n) best.few));
      positive = subst (λ xs. All (λ item. pos 0 <ℤ item.1) xs) (sym c.without_zeros.ensures) (all_positive b.items);
      small_den = omega (arith, small);
      small_num = each_part (2 ^ 88) b.num parts num;
      small_value = subst (λ z. unsigned_abs z ≤ 2 ^ 102) (sym is) (omega (arith, value));
    })

pub returns-in-Best-clause-infeasible : goal.returns-in-Best-clause-infeasible
returns-in-Best-clause-infeasible c = (
  λ never. absurd never,
  λ none. none (record { num = c.in-Best.best.num; den = c.in-Best.best.den })
      (whole_meets c.args.rows.now (whole_of c.args.rows.now) c.outcome.ensures.program (whole_is c.args.rows.now) c.in-Best.best.num c.in-Best.best.den c.in-Best.ensures.outcome.met),
)

pub returns-in-Infeasible-clause-farkas : goal.returns-in-Infeasible-clause-farkas
returns-in-Infeasible-clause-farkas c = record {
  proves = subst (λ xs. ProvesEmpty c.args.rows.now xs) (sym c.certificate.ensures) (kept_empty c.args.rows.now c.in-Infeasible.items (whole_none c.args.rows.now (whole_of c.args.rows.now) c.outcome.ensures.program (whole_is c.args.rows.now) c.in-Infeasible.items c.in-Infeasible.ensures.outcome.none));
  small = subst (λ xs. AreSmall xs) (sym c.certificate.ensures) (kept_small c.in-Infeasible.items (items_fit _ _ c.in-Infeasible.items (farkas_bound (level (whole_of c.args.rows.now).live)) c.in-Infeasible.ensures.outcome.few));
  positive = subst (λ xs. All (λ item. pos 0 <ℤ item.1) xs) (sym c.certificate.ensures) (all_positive c.in-Infeasible.items);
}

pub returns-in-Infeasible-clause-infeasible : goal.returns-in-Infeasible-clause-infeasible
returns-in-Infeasible-clause-infeasible c = (
  λ yes y meets. none_meets c.args.rows.now c.in-Infeasible.items y c.outcome.ensures.program
      (whole_none c.args.rows.now (whole_of c.args.rows.now) c.outcome.ensures.program (whole_is c.args.rows.now) c.in-Infeasible.items c.in-Infeasible.ensures.outcome.none) meets,
  λ none. tt,
)
