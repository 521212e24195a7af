use Rattle.std.proofs.Common.{◌≡◌, ◌≤◌, sym, subst, ◌∙◌, arith, ℤ}
use Rattle.std.specs.Int.{w128, ◌∣◌}
use Rattle.std.specs.Int.RustNames.{unsigned_abs}
use Rattle.std.proofs.Math.Nat.{dvd_refl, le_of_dvd}
use Rattle.std.proofs.lemmas.Int.{to_z-of_z}
use Rattle.report_text.proofs.Discounts.{discount_digits, discount_lowest, ratio_of}
use Rattle.report_text.proofs.Keywords.{no_unit}
use Rattle.report_text.proofs.Multiples.{divides_as}
use Rattle.report_text.proofs.nearest.next_discount.Goals as goal

pub discount-requires-clause-divides : goal.discount-requires-clause-divides
discount-requires-clause-divides c = subst (λ (z : ℤ). c.args.last.1 ∣ unsigned_abs z) (sym (to_z-of_z w128 c.args.common c.ranges.common)) c.requires.divides

pub returns-then-next_is-clause-divides : goal.returns-then-next_is-clause-divides
returns-then-next_is-clause-divides c = (subst (λ (z : ℤ). c.args.last.1 ∣ unsigned_abs z) (sym (to_z-of_z w128 c.args.common c.ranges.common)) c.requires.divides, subst (λ (z : ℤ). unsigned_abs c.args.common ∣ unsigned_abs z) (sym (to_z-of_z w128 c.args.common c.ranges.common)) (dvd_refl (unsigned_abs c.args.common)))

pub returns-then-next_is-clause-read : goal.returns-then-next_is-clause-read
returns-then-next_is-clause-read c = λ d m h p few x y e.
    let q : d.1 ≤ m = le_of_dvd p x in
    absurd (no_unit (ratio_of d) (discount_lowest d h (omega arith)) (sym e ∙ c.next_is.ensures.0 c.if-next_is.true))

pub returns-else-next_is-clause-divides : goal.returns-else-next_is-clause-divides
returns-else-next_is-clause-divides c =
    (c.discount.ensures.divides.0, subst (λ (z : ℤ). unsigned_abs z ∣ unsigned_abs c.discount.result.1) (to_z-of_z w128 c.args.common c.ranges.common) c.discount.ensures.divides.1)

pub returns-else-next_is-clause-read : goal.returns-else-next_is-clause-read
returns-else-next_is-clause-read c = λ d m h p few x y e.
    let q : d.1 ≤ m = le_of_dvd p x in
    let small : d.1 ≤ 1024 = omega arith in
    let is : c.fraction.result ≡ ratio_of d = c.fraction.ensures.read (ratio_of d) (discount_lowest d h small) (discount_digits d h small) e in
    let r = c.discount.ensures.read d m h p few x (divides_as c.args.common _ m (to_z-of_z w128 c.args.common c.ranges.common) y) is in
    (r.0, r.1, c.fraction.ensures.rest)
