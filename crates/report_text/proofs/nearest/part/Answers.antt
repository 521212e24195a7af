use Rattle.std.proofs.Common.{ℕ, ◌*◌, ◌≤◌, ◌^◌, refl, sym, ap, subst, arith, rules, SFits, ℤ, pos, ◌<ℤ◌}
use Rattle.std.specs.Int.{w128, ◌∣◌}
use Rattle.std.specs.Int.RustNames.{unsigned_abs}
use Rattle.std.proofs.Math.Nat.{le_of_dvd}
use Rattle.std.proofs.lemmas.Int.{ints, to_z-of_z}
use Rattle.pay_frac.specs.Whole.{IsLcm}
use Rattle.report_text.proofs.Multiples.{both_divide, divides_as, lcm_as, not_beyond, positive_abs, zero_divides}
use Rattle.report_text.proofs.nearest.part.Goals as goal
use Rattle.report_text.proofs.nearest.part.Goals.{else-den-via-then-den+else-unsigned_abs-den, else-den-via-else-den}

pub returns-in-Some-clause-divides : goal.returns-in-Some-clause-divides
returns-in-Some-clause-divides c =
    let fq : SFits w128 c.den-den.result = search rules in
    let fm : SFits w128 c.in-Some.multiple = search rules in
    let l : IsLcm (unsigned_abs c.args.common) (unsigned_abs c.den-den.result) (unsigned_abs c.in-Some.multiple) =
    lcm_as c.args.common c.den-den.result _ _ (unsigned_abs c.in-Some.multiple) (to_z-of_z w128 c.args.common c.ranges.common) (to_z-of_z w128 c.den-den.result fq) c.in-Some.ensures.0 in
    both_divide c.den-den.result c.in-Some.multiple c.args.common c.args.fraction.den _ (sym c.den-den.ensures.value) (to_z-of_z w128 c.in-Some.multiple fm) l.of_second l.of_first

pub returns-in-Some-clause-read : goal.returns-in-Some-clause-read
returns-in-Some-clause-read c = λ m p few x y s.
    let fq : SFits w128 c.den-den.result = search rules in
    let fm : SFits w128 c.in-Some.multiple = search rules in
    let x' : unsigned_abs c.den-den.result ∣ m = subst (λ (z : ℤ). unsigned_abs z ∣ m) (sym c.den-den.ensures.value) x in
    let l : IsLcm (unsigned_abs c.args.common) (unsigned_abs c.den-den.result) (unsigned_abs c.in-Some.multiple) =
    lcm_as c.args.common c.den-den.result _ _ (unsigned_abs c.in-Some.multiple) (to_z-of_z w128 c.args.common c.ranges.common) (to_z-of_z w128 c.den-den.result fq) c.in-Some.ensures.0 in
    (refl, divides_as c.in-Some.multiple _ m (to_z-of_z w128 c.in-Some.multiple fm) (l.least m y x'))

pub returns-in-None-clause-divides : goal.returns-in-None-clause-divides
returns-in-None-clause-divides c = zero_divides c.zero.result c.args.common _ c.zero.ensures.value (to_z-of_z w128 c.args.common c.ranges.common)

pub returns-in-None-clause-read : goal.returns-in-None-clause-read
returns-in-None-clause-read c = λ m p few x y s.
    let fq : SFits w128 c.den-den.result = search rules in
    let x' : unsigned_abs c.den-den.result ∣ m = subst (λ (z : ℤ). unsigned_abs z ∣ m) (sym c.den-den.ensures.value) x in
    let beyond : (n : ℕ) → IsLcm (unsigned_abs c.args.common) (unsigned_abs c.den-den.result) n → pos (2 ^ 20) <ℤ pos n =
    λ n l. c.in-None.ensures n (lcm_as _ _ c.args.common c.den-den.result n (sym (to_z-of_z w128 c.args.common c.ranges.common)) (sym (to_z-of_z w128 c.den-den.result fq)) l) in
    absurd (not_beyond (unsigned_abs c.args.common) (unsigned_abs c.den-den.result) m (2 ^ 20) (positive_abs c.args.common c.requires.0) p few y x' beyond)

pub returns-else-den-clause-divides : goal.returns-else-den-clause-divides
returns-else-den-clause-divides c = zero_divides c.zero-else-den.result c.args.common _ c.zero-else-den.ensures.value (to_z-of_z w128 c.args.common c.ranges.common)

pub returns-else-den-clause-read : goal.returns-else-den-clause-read
returns-else-den-clause-read c = λ m p few x y s.
    let x' : unsigned_abs c.den-den.result ∣ m = subst (λ (z : ℤ). unsigned_abs z ∣ m) (sym c.den-den.ensures.value) x in
    let q : unsigned_abs c.den-den.result ≤ m = le_of_dvd p x' in
    let t : unsigned_abs c.num-num.result ≤ 2 ^ 50 * unsigned_abs c.den-den.result =
    subst (λ (z : ℤ). unsigned_abs z ≤ 2 ^ 50 * unsigned_abs c.den-den.result) (sym c.num-num.ensures.value) (subst (λ (z : ℤ). unsigned_abs c.args.fraction.num ≤ 2 ^ 50 * unsigned_abs z) (sym c.den-den.ensures.value) s) in
    let fq : SFits w128 c.den-den.result = search rules in
    let fn : SFits w128 c.num-num.result = search rules in
    let r = ap unsigned_abs (to_z-of_z w128 c.den-den.result fq) in
    let rn = ap unsigned_abs (to_z-of_z w128 c.num-num.result fn) in
    elim c.else-den.branch [
      | else-den-via-then-den+else-unsigned_abs-den w ↦ absurd (omega (arith, w.if-unsigned_abs-den.false, w.unsigned_abs.ensures.value, r, rn, t, q, few))
      | else-den-via-else-den w ↦ absurd (omega (arith, ints, w.if-den.false, q, few))
    ]
