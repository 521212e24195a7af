use Rattle.std.proofs.Common.{◌≡◌, ℕ, ◌≤◌, sym, subst, ◌∙◌, arith, rules, SFits, ℤ, pos, ◌<ℤ◌}
use Rattle.std.specs.Int.{w128, IsGcd, ◌∣◌}
use Rattle.std.specs.Int.RustNames.{unsigned_abs}
use Rattle.std.proofs.Math.Nat.{dvd_refl, le_of_dvd}
use Rattle.std.proofs.lemmas.Int.{ints, to_z-of_z}
use Rattle.pay_frac.specs.Whole.{IsLcm}
use Rattle.report_text.proofs.Multiples.{both_divide, discount_is, divides_as, lcm_as, parts_are, positive_abs, same_pair, not_beyond}
use Rattle.report_text.proofs.nearest.discount.Goals as goal
use Rattle.report_text.proofs.nearest.discount.Goals.{else-p-gt0-via-then-p-gt0+then-p-q+else-q-le1024, else-p-gt0-via-then-p-gt0+else-p-q, else-p-gt0-via-else-p-gt0}

pub returns-in-Some-clause-keeps : goal.returns-in-Some-clause-keeps
returns-in-Some-clause-keeps c =
    let fp : SFits w128 c.num-p.result = search rules in
    let fq : SFits w128 c.den-q.result = search rules in
    let low = c.num-p.ensures.lowest.coprime in
    let g : IsGcd (unsigned_abs c.num-p.result) (unsigned_abs c.den-q.result) 1 =
    subst (λ (z : ℤ). IsGcd (unsigned_abs z) (unsigned_abs c.den-q.result) 1) (sym c.num-p.ensures.value) (subst (λ (z : ℤ). IsGcd (unsigned_abs c.args.fraction.num) (unsigned_abs z) 1) (sym c.den-q.ensures.value) low) in
    rw (to_z-of_z w128 c.num-p.result fp, to_z-of_z w128 c.den-q.result fq) (discount_is c.num-p.result c.den-q.result (omega (arith, ints, c.if-p-gt0.true)) (omega (arith, ints, c.if-p-q.true)) g)

pub returns-in-Some-clause-divides : goal.returns-in-Some-clause-divides
returns-in-Some-clause-divides c =
    let fq : SFits w128 c.den-q.result = search rules in
    let fm : SFits w128 c.in-Some.multiple = search rules in
    let l : IsLcm (unsigned_abs c.args.common) (unsigned_abs c.den-q.result) (unsigned_abs c.in-Some.multiple) =
    lcm_as c.args.common c.den-q.result _ _ (unsigned_abs c.in-Some.multiple) (to_z-of_z w128 c.args.common c.ranges.common) (to_z-of_z w128 c.den-q.result fq) c.in-Some.ensures.0 in
    both_divide c.den-q.result c.in-Some.multiple c.args.common _ _ (to_z-of_z w128 c.den-q.result fq) (to_z-of_z w128 c.in-Some.multiple fm) l.of_second l.of_first

pub returns-in-Some-clause-read : goal.returns-in-Some-clause-read
returns-in-Some-clause-read c = λ d m k p few x y e.
    let fp : SFits w128 c.num-p.result = search rules in
    let fq : SFits w128 c.den-q.result = search rules in
    let fm : SFits w128 c.in-Some.multiple = search rules in
    let z = parts_are c.args.fraction c.num-p.result c.den-q.result d c.num-p.ensures.value c.den-q.ensures.value e in
    let x' : unsigned_abs c.den-q.result ∣ m = subst (λ (z : ℤ). unsigned_abs z ∣ m) (sym z.1) x in
    let l : IsLcm (unsigned_abs c.args.common) (unsigned_abs c.den-q.result) (unsigned_abs c.in-Some.multiple) =
    lcm_as c.args.common c.den-q.result _ _ (unsigned_abs c.in-Some.multiple) (to_z-of_z w128 c.args.common c.ranges.common) (to_z-of_z w128 c.den-q.result fq) c.in-Some.ensures.0 in
    (same_pair _ _ d (to_z-of_z w128 c.num-p.result fp ∙ z.0) (to_z-of_z w128 c.den-q.result fq ∙ z.1), divides_as c.in-Some.multiple _ m (to_z-of_z w128 c.in-Some.multiple fm) (l.least m y x'))

pub returns-in-None-clause-divides : goal.returns-in-None-clause-divides
returns-in-None-clause-divides c = (subst (λ (z : ℤ). c.args.last.1 ∣ unsigned_abs z) (sym (to_z-of_z w128 c.args.common c.ranges.common)) c.requires.divides, subst (λ (z : ℤ). unsigned_abs c.args.common ∣ unsigned_abs z) (sym (to_z-of_z w128 c.args.common c.ranges.common)) (dvd_refl (unsigned_abs c.args.common)))

pub returns-in-None-clause-read : goal.returns-in-None-clause-read
returns-in-None-clause-read c = λ d m k p few x y e.
    let fq : SFits w128 c.den-q.result = search rules in
    let z = parts_are c.args.fraction c.num-p.result c.den-q.result d c.num-p.ensures.value c.den-q.ensures.value e in
    let x' : unsigned_abs c.den-q.result ∣ m = subst (λ (z : ℤ). unsigned_abs z ∣ m) (sym z.1) x in
    let beyond : (n : ℕ) → IsLcm (unsigned_abs c.args.common) (unsigned_abs c.den-q.result) n → pos 1024 <ℤ pos n =
    λ n l. c.in-None.ensures n (lcm_as _ _ c.args.common c.den-q.result n (sym (to_z-of_z w128 c.args.common c.ranges.common)) (sym (to_z-of_z w128 c.den-q.result fq)) l) in
    absurd (not_beyond (unsigned_abs c.args.common) (unsigned_abs c.den-q.result) m 1024 (positive_abs c.args.common c.requires.common.0) p few y x' beyond)

pub returns-else-p-gt0-clause-divides : goal.returns-else-p-gt0-clause-divides
returns-else-p-gt0-clause-divides c = (subst (λ (z : ℤ). c.args.last.1 ∣ unsigned_abs z) (sym (to_z-of_z w128 c.args.common c.ranges.common)) c.requires.divides, subst (λ (z : ℤ). unsigned_abs c.args.common ∣ unsigned_abs z) (sym (to_z-of_z w128 c.args.common c.ranges.common)) (dvd_refl (unsigned_abs c.args.common)))

pub returns-else-p-gt0-clause-read : goal.returns-else-p-gt0-clause-read
returns-else-p-gt0-clause-read c = λ d m k p few x y e.
    let z = parts_are c.args.fraction c.num-p.result c.den-q.result d c.num-p.ensures.value c.den-q.ensures.value e in
    let q : d.1 ≤ m = le_of_dvd p x in
    let zp : c.num-p.result ≡ pos d.0 = z.0 in
    let zq : c.den-q.result ≡ pos d.1 = z.1 in
    elim c.else-p-gt0.branch [
      | else-p-gt0-via-then-p-gt0+then-p-q+else-q-le1024 w ↦ absurd (omega (arith, ints, w.if-q-le1024.false, zq, q, few))
      | else-p-gt0-via-then-p-gt0+else-p-q w ↦ absurd (omega (arith, ints, w.if-p-q.false, zp, zq, k.below_one))
      | else-p-gt0-via-else-p-gt0 w ↦ absurd (omega (arith, ints, w.if-p-gt0.false, zp, k.positive))
    ]
