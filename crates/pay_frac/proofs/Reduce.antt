-- A fraction divided by a common divisor.
use Rattle.std.proofs.Common.{◌≡◌, ◌≢◌, ℕ, zero, suc, ◌*◌, ◌/◌, ◌<◌, ◌≤◌, ◌^◌, [], ◌∷◌, refl, sym, ap, ◌∙◌, arith}
use Rattle.std.specs.Prelude.{ℤ, pos, negsuc, ◌+ℤ◌, ◌*ℤ◌, ◌<ℤ◌}
use Rattle.std.specs.Int.RustNames.{FitsSigned, int_div, int_rem, unsigned_abs}
use Rattle.std.specs.Int.{IsGcd, ◌∣◌, w128}
use Rattle.std.proofs.Math.Nat.{mod-eq-zero_of_dvd, div-le_self, pos_of_dvd_of_pos}
use Rattle.std.proofs.lemmas.Int.{ints, fits_signed_from_abs, quot-rem, unsigned_abs-mul}
use lib.IntN.{neg_ℤ}
use Rattle.exact_algebra.specs.Poly.{var, ◌⊗◌}
use Rattle.exact_algebra.proofs.Normal.{ring}
use Rattle.exact_algebra.proofs.Order.{product_above_zero, same_from_times}
use Rattle.pay_frac.specs.Ratio.{Ratio, IsLowest, Equals}
use Rattle.pay_frac.proofs.Coprime.{reduced, positive_quotient, lowest_den}

abs_of_neg : (n : ℕ) → unsigned_abs (neg_ℤ (pos n)) ≡ n
abs_of_neg zero = refl
abs_of_neg (suc n) = refl

pub abs-quotient : (a d : ℤ) → unsigned_abs (int_div a d) ≡ unsigned_abs a / unsigned_abs d
abs-quotient (pos a) (pos d) = refl
abs-quotient (pos a) (negsuc d) = abs_of_neg (a / suc d)
abs-quotient (negsuc a) (pos d) = abs_of_neg (suc a / d)
abs-quotient (negsuc a) (negsuc d) = refl

no_rest : (a d : ℤ) → unsigned_abs d ∣ unsigned_abs a → int_rem a d ≡ pos 0
no_rest (pos a) d h = ap pos (mod-eq-zero_of_dvd (unsigned_abs d) h)
no_rest (negsuc a) d h = ap (λ n. neg_ℤ (pos n)) (mod-eq-zero_of_dvd (unsigned_abs d) h)

plus_zero : (a b : ℤ) → b ≡ pos 0 → a +ℤ b ≡ a
plus_zero a b e = omega (arith, ints)

-- a quotient without rest
pub exact : (a d : ℤ) → unsigned_abs d ∣ unsigned_abs a → int_div a d *ℤ d ≡ a
exact a d h = sym (plus_zero (int_div a d *ℤ d) (int_rem a d) (no_rest a d h)) ∙ quot-rem a d

-- dividing both parts keeps the cross products
pub same_cross : (num den d : ℤ) → unsigned_abs d ∣ unsigned_abs num → unsigned_abs d ∣ unsigned_abs den → int_div num d *ℤ den ≡ num *ℤ int_div den d
same_cross num den d h k =
    let q = int_div num d in
    let r = int_div den d in
    let e : q *ℤ (r *ℤ d) ≡ (q *ℤ d) *ℤ r = ring (q ∷ r ∷ d ∷ []) (var 0 ⊗ (var 1 ⊗ var 2)) ((var 0 ⊗ var 2) ⊗ var 1) refl in
    ap (λ z. q *ℤ z) (sym (exact den d k)) ∙ e ∙ ap (λ z. z *ℤ r) (exact num d h)

pub no_greater : (a d : ℤ) → unsigned_abs (int_div a d) ≤ unsigned_abs a
no_greater a d = omega (arith, abs-quotient a d, div-le_self (unsigned_abs a) (unsigned_abs d))

quotient_positive : (a d : ℤ) → a ≢ pos 0 → (a <ℤ pos 0 → d <ℤ pos 0) → (pos 0 <ℤ a → pos 0 <ℤ d) → unsigned_abs d ∣ unsigned_abs a → pos 0 <ℤ int_div a d
quotient_positive (pos zero) d n f g h = absurd (n refl)
quotient_positive (pos (suc a)) (pos d) n f g h =
    let p : pos 0 <ℤ pos d = g (omega (arith, ints)) in
    let q : 0 < suc a / d = positive_quotient (suc a) d (omega arith) (omega (arith, ints)) h in
    omega (arith, ints)
quotient_positive (pos (suc a)) (negsuc d) n f g h = let p : pos 0 <ℤ negsuc d = g (omega (arith, ints)) in absurd (omega (arith, ints))
quotient_positive (negsuc a) (pos d) n f g h = let p : pos d <ℤ pos 0 = f (omega (arith, ints)) in absurd (omega (arith, ints))
quotient_positive (negsuc a) (negsuc d) n f g h =
    let q : 0 < suc a / suc d = positive_quotient (suc a) (suc d) (omega arith) (omega arith) h in
    omega (arith, ints)

pub abs_positive : (a : ℤ) → a ≢ pos 0 → 0 < unsigned_abs a
abs_positive a n = omega (arith, ints)

-- the greatest common divisor is not 0 where one of the numbers isn't
pub divisor_positive : (a b g : ℕ) → 0 < b → IsGcd a b g → 0 < g
divisor_positive a b g p h = pos_of_dvd_of_pos h.1 p

pub lowest_quotient : (num den d : ℤ) → den ≢ pos 0 → unsigned_abs num < 2 ^ 127 → unsigned_abs den < 2 ^ 127
    → IsGcd (unsigned_abs num) (unsigned_abs den) (unsigned_abs d) → (den <ℤ pos 0 → d <ℤ pos 0) → (pos 0 <ℤ den → pos 0 <ℤ d)
    → IsLowest (record { num = int_div num d; den = int_div den d })
lowest_quotient num den d n x y h f g =
    let p : 0 < unsigned_abs d = divisor_positive (unsigned_abs num) (unsigned_abs den) (unsigned_abs d) (abs_positive den n) h in
    let lowest = reduced (unsigned_abs num) (unsigned_abs den) (unsigned_abs d) p h in
    let low_num = no_greater num d in
    let low_den = no_greater den d in
    record {
      positive = quotient_positive den d n f g h.1;
      coprime = rw (abs-quotient num d, abs-quotient den d) lowest;
      num_fits = omega arith;
      den_fits = omega arith;
    }

-- a quotient fits where the number is not the least one
pub quotient_fits : (a d : ℤ) → unsigned_abs a < 2 ^ 127 → FitsSigned w128 (int_div a d)
quotient_fits a d h = let n = no_greater a d in fits_signed_from_abs w128 (int_div a d) (omega arith)

-- what the quotients by a common divisor with the sign of the denominator are
pub record Reduced (num den d : ℤ) : Type 0 where
  pub lowest : IsLowest (record { num = int_div num d; den = int_div den d })
  pub equal : int_div num d *ℤ den ≡ num *ℤ int_div den d

pub reduced_by : (num den d : ℤ) → den ≢ pos 0 → unsigned_abs num < 2 ^ 127 → unsigned_abs den < 2 ^ 127
    → IsGcd (unsigned_abs num) (unsigned_abs den) (unsigned_abs d) → (den <ℤ pos 0 → d <ℤ pos 0) → (pos 0 <ℤ den → pos 0 <ℤ d)
    → Reduced num den d
reduced_by num den d n x y h f g = record { lowest = lowest_quotient num den d n x y h f g; equal = same_cross num den d h.0 h.1 }

-- the parts of a fraction fit
pub num_fits_of : (r : Ratio) → IsLowest r → FitsSigned w128 r.num
num_fits_of r h = fits_signed_from_abs w128 r.num h.num_fits

pub den_fits_of : (r : Ratio) → IsLowest r → FitsSigned w128 r.den
den_fits_of r h = fits_signed_from_abs w128 r.den h.den_fits

-- denominators multiply to no 0
pub dens_product : (r s : Ratio) → IsLowest r → IsLowest s → r.den *ℤ s.den ≢ pos 0
dens_product r s h k e = let p : pos 0 <ℤ (r.den *ℤ s.den) = product_above_zero r.den s.den h.positive k.positive in omega (arith, ints)

-- the same number in lowest terms: first the denominators, then the numerators
lowest_dens : (a b : ℤ) (n m : ℕ) → IsGcd (unsigned_abs a) n 1 → IsGcd (unsigned_abs b) m 1 → a *ℤ pos m ≡ b *ℤ pos n → n ≡ m
lowest_dens a b n m g h e =
    let f : unsigned_abs a * m ≡ unsigned_abs b * n = sym (unsigned_abs-mul a (pos m)) ∙ ap unsigned_abs e ∙ unsigned_abs-mul b (pos n) in
    lowest_den (unsigned_abs a) n (unsigned_abs b) m g h f

cancel : (a b d : ℤ) → pos 0 <ℤ d → a *ℤ d ≡ b *ℤ d → a ≡ b
cancel a b d p e =
    let swapped = λ (z : ℤ). ring (z ∷ d ∷ []) (var 1 ⊗ var 0) (var 0 ⊗ var 1) refl in
    same_from_times d a b p (swapped a ∙ e ∙ sym (swapped b))

same_dens : (a b c d : ℤ) → pos 0 <ℤ c → pos 0 <ℤ d → IsGcd (unsigned_abs a) (unsigned_abs c) 1 → IsGcd (unsigned_abs b) (unsigned_abs d) 1 → a *ℤ d ≡ b *ℤ c → c ≡ d
same_dens a b (pos n) (pos m) p q g h e = ap pos (lowest_dens a b n m g h e)
same_dens a b (pos n) (negsuc m) p q g h e = absurd (omega (arith, ints))
same_dens a b (negsuc n) d p q g h e = absurd (omega (arith, ints))

pub lowest_same : (r s : Ratio) → IsLowest r → IsLowest s → Equals r s.num s.den → r ≡ s
lowest_same r s h k e =
    let dens : r.den ≡ s.den = same_dens r.num s.num r.den s.den h.positive k.positive h.coprime k.coprime e in
    let nums : r.num ≡ s.num = cancel r.num s.num s.den k.positive (e ∙ ap (λ z. s.num *ℤ z) dens) in
    λ i. record { num = nums i; den = dens i }
