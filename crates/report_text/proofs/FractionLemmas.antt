-- A fraction over a positive denominator has one spelling.
use Rattle.std.proofs.Common.{◌≡◌, ℕ, ◌*◌, ◌/◌, ◌<◌, List, refl, sym, ap, ◌∙◌, arith, ℤ, pos, negsuc, ◌*ℤ◌, ◌<ℤ◌}
use Rattle.std.specs.Int.RustNames.{unsigned_abs}
use Rattle.std.proofs.Math.Nat.{mul-div_cancel}
use Rattle.std.proofs.lemmas.Int.{ints, unsigned_abs-mul}
use Rattle.pay_frac.specs.Ratio.{Ratio, IsLowest, Equals}
use Rattle.pay_frac.proofs.Coprime.{lowest_den}
use Rattle.report_lines.specs.Spelled.{ratio_word}
use Rattle.report_text.specs.ReportText.{IsFractionWord}

abs_cross : (r : Ratio) (num den : ℤ) → Equals r num den → unsigned_abs r.num * unsigned_abs den ≡ unsigned_abs num * unsigned_abs r.den
abs_cross r num den e = sym (unsigned_abs-mul r.num den) ∙ ap unsigned_abs e ∙ unsigned_abs-mul num r.den

pub nat_cross : (a b c d n e : ℕ) → 0 < e → a * e ≡ n * b → c * e ≡ n * d → a * d ≡ c * b
nat_cross a b c d n e p h k =
    let m : (a * d) * e ≡ (c * b) * e = omega (arith, ap (λ x. x * d) h, ap (λ x. x * b) k) in
    sym (mul-div_cancel (a * d) p) ∙ ap (λ x. x / e) m ∙ mul-div_cancel (c * b) p

positive_is : (z : ℤ) → pos 0 <ℤ z → z ≡ pos (unsigned_abs z)
positive_is (pos n) h = refl
positive_is (negsuc n) h = absurd (omega (arith, ints))

abs_positive : (z : ℤ) → pos 0 <ℤ z → 0 < unsigned_abs z
abs_positive (pos n) h = omega (arith, ints)
abs_positive (negsuc n) h = absurd (omega (arith, ints))

pub cancel_abs : (a c n e b : ℕ) → 0 < e → a * e ≡ n * b → c * e ≡ n * b → a ≡ c
cancel_abs a c n e b p h k = sym (mul-div_cancel a p) ∙ ap (λ x. x / e) (h ∙ sym k) ∙ mul-div_cancel c p

-- numbers of the same size and sign are the same
cancel_positive : (x y : ℤ) (e : ℕ) → 0 < e → x *ℤ pos e ≡ y *ℤ pos e → unsigned_abs x ≡ unsigned_abs y → x ≡ y
cancel_positive (pos m) (pos n) e p h k = ap (λ z. pos z) k
cancel_positive (pos m) (negsuc n) e p h k = absurd (omega (arith, ints))
cancel_positive (negsuc m) (pos n) e p h k = absurd (omega (arith, ints))
cancel_positive (negsuc m) (negsuc n) e p h k = let same : m ≡ n = omega arith in ap (λ z. negsuc z) same

-- equal fractions in lowest terms have the same parts
pub same_parts : (a b : Ratio) (num den : ℤ) → pos 0 <ℤ den → IsLowest a → Equals a num den → IsLowest b → Equals b num den → (a.num ≡ b.num) × (a.den ≡ b.den)
same_parts a b num den p low equal low' equal' =
    let cross : unsigned_abs a.num * unsigned_abs b.den ≡ unsigned_abs b.num * unsigned_abs a.den =
    nat_cross (unsigned_abs a.num) (unsigned_abs a.den) (unsigned_abs b.num) (unsigned_abs b.den) (unsigned_abs num) (unsigned_abs den)
    (abs_positive den p) (abs_cross a num den equal) (abs_cross b num den equal') in
    let sizes : unsigned_abs a.den ≡ unsigned_abs b.den =
    lowest_den (unsigned_abs a.num) (unsigned_abs a.den) (unsigned_abs b.num) (unsigned_abs b.den) low.coprime low'.coprime cross in
    let dens : a.den ≡ b.den =
    positive_is a.den low.positive ∙ ap (λ n. pos n) sizes ∙ sym (positive_is b.den low'.positive) in
    let nums : a.num ≡ b.num =
    cancel_positive a.num b.num (unsigned_abs den) (abs_positive den p)
    (ap (λ z. a.num *ℤ z) (sym (positive_is den p)) ∙ equal ∙ ap (λ z. num *ℤ z) dens ∙ sym equal' ∙ ap (λ z. b.num *ℤ z) (positive_is den p))
    (cancel_abs (unsigned_abs a.num) (unsigned_abs b.num) (unsigned_abs num) (unsigned_abs den) (unsigned_abs a.den) (abs_positive den p)
    (abs_cross a num den equal) (abs_cross b num den equal' ∙ ap (λ n. unsigned_abs num * n) (sym sizes))) in
    (nums, dens)

pub one_word : (num den : ℤ) (v w : List ℕ) → pos 0 <ℤ den → IsFractionWord num den v → IsFractionWord num den w → v ≡ w
one_word num den v w p g h =
    let a = g.ratio in
    let b = h.ratio in
    let same : (a.num ≡ b.num) × (a.den ≡ b.den) = same_parts a b num den p g.lowest g.equal h.lowest h.equal in
    g.spelled
    ∙ ap (λ z. ratio_word (record { num = z; den = a.den })) same.0
    ∙ ap (λ z. ratio_word (record { num = b.num; den = z })) same.1
    ∙ sym h.spelled
