-- Parts of points, as fractions with a common denominator.
use Rattle.std.proofs.Common.{◌≡◌, ℕ, suc, ◌+◌, ◌*◌, ◌<◌, ◌≤◌, ◌^◌, Bool, true, false, if◌then◌else◌, List, [], ◌∷◌, ◌++◌, refl, sym, ap, subst, ◌∙◌, arith, ℤ, pos, negsuc, ◌*ℤ◌, ◌<ℤ◌, ◌≤ℤ◌}
use Rattle.std.specs.Prelude.{decimal}
use Rattle.std.specs.Char.{is_ascii_digit}
use Rattle.std.specs.Fmt.{signed_decimal}
use Rattle.std.specs.Int.{w128, ◌∣◌}
use Rattle.std.specs.Int.RustNames.{FitsSigned, int_div, unsigned_abs}
use Rattle.std.specs.Ordering.{int_eq}
use Rattle.std.proofs.Math.Nat.{dvd-mul_right, le_of_mul-le-mul_right, mul-le-mul_right, mul_comm}
use Rattle.std.proofs.lemmas.Fmt.{decimal_is_IsNumeral_wide, length-decimal-le_wide}
use Rattle.std.proofs.lemmas.Int.{fits_signed_from_abs, ints, unsigned_abs-mul}
use Rattle.std.proofs.lemmas.List.Sums.{sum_by-append}
use Rattle.exact_algebra.specs.Poly.{var, ◌⊗◌}
use Rattle.exact_algebra.proofs.Normal.{ring}
use Rattle.exact_algebra.proofs.Order.{same_from_times}
use Rattle.pay_frac.specs.Ratio.{Ratio, IsLowest, Equals}
use Rattle.pay_frac.specs.Spelling.{digit_count}
use Rattle.pay_frac.proofs.Coprime.{gauss}
use Rattle.pay_frac.proofs.Digits.{count_digits}
use Rattle.pay_frac.proofs.Reduce.{exact, no_greater}
use Rattle.pay_frac.proofs.Spellings.{digit_count_signed}
use Rattle.report_lines.specs.Spelled.{ratio_word}

pub positive_size : (z : ℤ) → pos 0 <ℤ z → 0 < unsigned_abs z
positive_size (pos n) h = omega (arith, ints, h)
positive_size (negsuc n) h = absurd (omega (arith, ints, h))

cross_sizes : (a b c d : ℤ) → a *ℤ b ≡ c *ℤ d → unsigned_abs a * unsigned_abs b ≡ unsigned_abs c * unsigned_abs d
cross_sizes a b c d e = sym (unsigned_abs-mul a b) ∙ ap unsigned_abs e ∙ unsigned_abs-mul c d

-- the denominator of a fraction in lowest terms divides each denominator that the fraction has
pub lowest_divides : (r : Ratio) (n d k : ℤ) (m : ℕ) → IsLowest r → pos 0 <ℤ d → Equals r n d → n *ℤ pos m ≡ k *ℤ d → unsigned_abs r.den ∣ m
lowest_divides r n d k m low p e g =
    let xs = r.num ∷ r.den ∷ n ∷ d ∷ k ∷ pos m ∷ [] in
    let first : d *ℤ (r.num *ℤ pos m) ≡ (r.num *ℤ d) *ℤ pos m = ring xs (var 3 ⊗ (var 0 ⊗ var 5)) ((var 0 ⊗ var 3) ⊗ var 5) refl in
    let mid : (n *ℤ r.den) *ℤ pos m ≡ (n *ℤ pos m) *ℤ r.den = ring xs ((var 2 ⊗ var 1) ⊗ var 5) ((var 2 ⊗ var 5) ⊗ var 1) refl in
    let last : (k *ℤ d) *ℤ r.den ≡ d *ℤ (k *ℤ r.den) = ring xs ((var 4 ⊗ var 3) ⊗ var 1) (var 3 ⊗ (var 4 ⊗ var 1)) refl in
    let same : r.num *ℤ pos m ≡ k *ℤ r.den = same_from_times d (r.num *ℤ pos m) (k *ℤ r.den) p (first ∙ ap (λ (z : ℤ). z *ℤ pos m) e ∙ mid ∙ ap (λ (z : ℤ). z *ℤ r.den) g ∙ last) in
    let sizes : unsigned_abs r.num * m ≡ unsigned_abs k * unsigned_abs r.den = cross_sizes r.num (pos m) k r.den same in
    gauss (unsigned_abs r.num) (unsigned_abs r.den) m low.coprime
    (subst (λ (x : ℕ). unsigned_abs r.den ∣ x) (sym (sizes ∙ mul_comm (unsigned_abs k) (unsigned_abs r.den))) (dvd-mul_right (unsigned_abs r.den) (unsigned_abs k)))

cancel_at_most : (a b c d n : ℕ) → 0 < b → a * b ≡ c * d → c ≤ n * b → a ≤ n * d
cancel_at_most a b c d n p e h =
    let m : c * d ≤ (n * b) * d = mul-le-mul_right d h in
    let q : a * b ≤ (n * d) * b = omega (arith, m, e) in
    le_of_mul-le-mul_right q p

pub lowest_small : (r : Ratio) (n d : ℤ) (b : ℕ) → pos 0 <ℤ d → Equals r n d → unsigned_abs n ≤ b * unsigned_abs d → unsigned_abs r.num ≤ b * unsigned_abs r.den
lowest_small r n d b p e h = cancel_at_most (unsigned_abs r.num) (unsigned_abs d) (unsigned_abs n) (unsigned_abs r.den) b (positive_size d p) (cross_sizes r.num d n r.den e) h

-- a fraction over another denominator
pub same_part : (r : Ratio) (o y den other : ℤ) → pos 0 <ℤ r.den → o *ℤ r.den ≡ r.num *ℤ den → Equals r y other → y *ℤ den ≡ o *ℤ other
same_part r o y den other p e g =
    let xs = r.num ∷ r.den ∷ o ∷ y ∷ den ∷ other ∷ [] in
    let first : r.den *ℤ (y *ℤ den) ≡ (y *ℤ r.den) *ℤ den = ring xs (var 1 ⊗ (var 3 ⊗ var 4)) ((var 3 ⊗ var 1) ⊗ var 4) refl in
    let mid : (r.num *ℤ other) *ℤ den ≡ (r.num *ℤ den) *ℤ other = ring xs ((var 0 ⊗ var 5) ⊗ var 4) ((var 0 ⊗ var 4) ⊗ var 5) refl in
    let last : (o *ℤ r.den) *ℤ other ≡ r.den *ℤ (o *ℤ other) = ring xs ((var 2 ⊗ var 1) ⊗ var 5) (var 1 ⊗ (var 2 ⊗ var 5)) refl in
    same_from_times r.den (y *ℤ den) (o *ℤ other) p (first ∙ ap (λ (z : ℤ). z *ℤ den) (sym g) ∙ mid ∙ ap (λ (z : ℤ). z *ℤ other) (sym e) ∙ last)

-- a fraction over a multiple of its denominator
pub over_equal : (r : Ratio) (num d den : ℤ) → num ≡ r.num → d ≡ r.den → unsigned_abs r.den ∣ unsigned_abs den → (num *ℤ int_div den d) *ℤ r.den ≡ r.num *ℤ den
over_equal r num d den e g h =
    let q = int_div den d in
    let xs = num ∷ q ∷ d ∷ [] in
    let turned : (num *ℤ q) *ℤ d ≡ num *ℤ (q *ℤ d) = ring xs ((var 0 ⊗ var 1) ⊗ var 2) (var 0 ⊗ (var 1 ⊗ var 2)) refl in
    let h' : unsigned_abs d ∣ unsigned_abs den = subst (λ (z : ℤ). unsigned_abs z ∣ unsigned_abs den) (sym g) h in
    ap (λ (z : ℤ). (num *ℤ q) *ℤ z) (sym g) ∙ turned ∙ ap (λ (z : ℤ). num *ℤ z) (exact den d h') ∙ ap (λ (z : ℤ). z *ℤ den) e

pub over_small : (r : Ratio) (num d den : ℤ) → pos 0 <ℤ r.den → num ≡ r.num → d ≡ r.den → unsigned_abs r.den ∣ unsigned_abs den → unsigned_abs r.num ≤ 2 ^ 50 * unsigned_abs r.den
    → unsigned_abs (num *ℤ int_div den d) ≤ 2 ^ 50 * unsigned_abs den
over_small r num d den p e g h s =
    cancel_at_most (unsigned_abs (num *ℤ int_div den d)) (unsigned_abs r.den) (unsigned_abs r.num) (unsigned_abs den) (2 ^ 50) (positive_size r.den p) (cross_sizes (num *ℤ int_div den d) r.den r.num den (over_equal r num d den e g h)) s

pub size_few : (z : ℤ) → pos 1 ≤ℤ z → z ≤ℤ pos (2 ^ 20) → unsigned_abs z ≤ 2 ^ 20
size_few (pos n) h k = omega (arith, ints)
size_few (negsuc n) h k = absurd (omega (arith, ints))

pub over_fits : (x den : ℤ) → pos 1 ≤ℤ den → den ≤ℤ pos (2 ^ 20) → unsigned_abs x ≤ 2 ^ 50 * unsigned_abs den → FitsSigned w128 x
over_fits x den h k s = fits_signed_from_abs w128 x (let few : unsigned_abs den ≤ 2 ^ 20 = size_few den h k in omega (arith, s, few))

pub quotient_small : (den d : ℤ) → pos 1 ≤ℤ den → den ≤ℤ pos (2 ^ 20) → FitsSigned w128 (int_div den d)
quotient_small den d h k = fits_signed_from_abs w128 (int_div den d) (let few : unsigned_abs den ≤ 2 ^ 20 = size_few den h k in omega (arith, no_greater den d, few))

-- ---- digits
digits_decimal : (k n : ℕ) → 0 < k → k ≤ 36 → n < 10 ^ k → n < 10 ^ 64 → digit_count (decimal n) ≤ k
digits_decimal k n p l h w =
    let d = decimal_is_IsNumeral_wide n w in
    omega (arith, count_digits (decimal n) d.0.1, length-decimal-le_wide k n p h w)

digits_signed : (k : ℕ) (x : ℤ) → 0 < k → k ≤ 36 → unsigned_abs x < 10 ^ k → unsigned_abs x < 10 ^ 64 → digit_count (signed_decimal x) ≤ k
digits_signed k (pos n) p l h w = digits_decimal k n p l h w
digits_signed k (negsuc n) p l h w = omega (arith, digit_count_signed true (decimal (suc n)), digits_decimal k (suc n) p l h w)

-- the digits of a word of two numbers
digits_joined : (v w : List ℕ) → digit_count (v ++ 47 ∷ w) ≡ digit_count v + digit_count w
digits_joined v w = sum_by-append (λ (x : ℕ). if is_ascii_digit x then 1 else 0) v (47 ∷ w)

pub ratio_digits : (r : Ratio) (a b : ℕ) → 0 < a → 0 < b → a + b ≤ 36 → unsigned_abs r.num < 10 ^ a → unsigned_abs r.den < 10 ^ b → IsLowest r → digit_count (ratio_word r) ≤ 36
ratio_digits r a b p q few g h low =
    let wide_num : unsigned_abs r.num < 10 ^ 64 = let f : unsigned_abs r.num < 2 ^ 127 = low.num_fits in omega arith in
    let wide_den : unsigned_abs r.den < 10 ^ 64 = let f : unsigned_abs r.den < 2 ^ 127 = low.den_fits in omega arith in
    let num : digit_count (signed_decimal r.num) ≤ a = digits_signed a r.num p (omega arith) g wide_num in
    let den : digit_count (signed_decimal r.den) ≤ b = digits_signed b r.den q (omega arith) h wide_den in
    let by : (t : Bool) → digit_count (if t then signed_decimal r.num else (signed_decimal r.num ++ 47 ∷ signed_decimal r.den)) ≤ 36 =
    λ t. elim t as (λ t. digit_count (if t then signed_decimal r.num else (signed_decimal r.num ++ 47 ∷ signed_decimal r.den)) ≤ 36) [
      | true ↦ omega (arith, num, few)
      | false ↦ omega (arith, digits_joined (signed_decimal r.num) (signed_decimal r.den), num, den, few)
    ] in
    by (int_eq r.den (pos 1))
