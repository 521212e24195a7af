-- Fractions with a common denominator.
use Rattle.std.proofs.Common.{◌≡◌, ℕ, zero, suc, ◌*◌, ◌/◌, ◌%◌, ◌<◌, ◌≤◌, refl, sym, ap, subst, ◌∙◌, arith, ℤ, pos, negsuc, ◌<ℤ◌, ◌≤ℤ◌}
use Rattle.std.specs.Int.{IsGcd, ◌∣◌}
use Rattle.std.specs.Int.RustNames.{unsigned_abs}
use Rattle.std.proofs.Math.Nat.{dvd_refl, le_of_dvd, mod-lt, one-dvd}
use Rattle.std.proofs.lemmas.Nat.Gcd.{IsGcd-from_mod, IsGcd-from_zero}
use Rattle.pay_frac.proofs.Coprime.{multiple}
use Rattle.std.proofs.lemmas.Int.{ints}
use Rattle.pay_frac.specs.Ratio.{Ratio}
use Rattle.pay_frac.specs.Whole.{IsLcm}
use Rattle.report_text.specs.Rules.{IsDiscount}

pub discount_is : (p q : ℤ) → pos 0 <ℤ p → p <ℤ q → IsGcd (unsigned_abs p) (unsigned_abs q) 1 → IsDiscount (unsigned_abs p, unsigned_abs q)
discount_is (pos m) (pos n) h k g = record { positive = omega (arith, ints, h); below_one = omega (arith, ints, k); lowest = g }
discount_is (pos m) (negsuc n) h k g = absurd (omega (arith, ints, h, k))
discount_is (negsuc m) q h k g = absurd (omega (arith, ints, h))

-- the parts of a discount, as those of the fraction that is read
pub parts_are : (f : Ratio) (p q : ℤ) (d : ℕ × ℕ) → p ≡ f.num → q ≡ f.den → f ≡ record { num = pos d.0; den = pos d.1 } → (p ≡ pos d.0) × (q ≡ pos d.1)
parts_are f p q d e g h = (e ∙ ap (λ (r : Ratio). r.num) h, g ∙ ap (λ (r : Ratio). r.den) h)

pub same_pair : (p q : ℤ) (d : ℕ × ℕ) → p ≡ pos d.0 → q ≡ pos d.1 → (unsigned_abs p, unsigned_abs q) ≡ d
same_pair p q d e g = ap (λ (z : ℤ). (unsigned_abs z, unsigned_abs q)) e ∙ ap (λ (z : ℤ). (d.0, unsigned_abs z)) g

-- a number that has a common multiple up to a bound has no greater least one
pub none_beyond : (a b m bound : ℕ) → 0 < m → m ≤ bound → a ∣ m → b ∣ m → ((n : ℕ) → IsLcm a b n → pos bound <ℤ pos n) → ((n : ℕ) × IsLcm a b n) → ⊥
none_beyond a b m bound p few x y beyond l =
    let d : l.0 ∣ m = l.1.least m x y in
    let le : l.0 ≤ m = le_of_dvd p d in
    let g : pos bound <ℤ pos l.0 = beyond l.0 l.1 in
    omega (arith, ints, le, g, few)

-- two numbers, the first positive, have a greatest common divisor
some_gcd : (fuel a b : ℕ) → 0 < a → b < fuel → (g : ℕ) × (0 < g) × IsGcd a b g
some_gcd zero a b p h = absurd (omega arith)
some_gcd (suc n) a zero p h = (a, p, IsGcd-from_zero a zero refl)
some_gcd (suc n) a (suc b) p h =
    let l : a % suc b < suc b = mod-lt a (omega arith) in
    let r = some_gcd n (suc b) (a % suc b) (omega arith) (omega (arith, l, h)) in
    (r.0, r.1, IsGcd-from_mod a (suc b) r.0 r.2)

some_lcm : (a b : ℕ) → 0 < a → (n : ℕ) × IsLcm a b n
some_lcm a b p =
    let fuel : b < suc b = omega arith in
    let g = some_gcd (suc b) a b p fuel in
    (a / g.0 * b, multiple a b g.0 g.1 g.2)

pub not_beyond : (a b m bound : ℕ) → 0 < a → 0 < m → m ≤ bound → a ∣ m → b ∣ m → ((n : ℕ) → IsLcm a b n → pos bound <ℤ pos n) → ⊥
not_beyond a b m bound q p few x y beyond = none_beyond a b m bound p few x y beyond (some_lcm a b q)

pub both_divide : (q m common q' m' : ℤ) → q' ≡ q → m' ≡ m → unsigned_abs q ∣ unsigned_abs m → unsigned_abs common ∣ unsigned_abs m → (unsigned_abs q' ∣ unsigned_abs m') × (unsigned_abs common ∣ unsigned_abs m')
both_divide q m common q' m' e g x y =
    (subst (λ (z : ℤ). unsigned_abs z ∣ unsigned_abs m') (sym e) (subst (λ (z : ℤ). unsigned_abs q ∣ unsigned_abs z) (sym g) x), subst (λ (z : ℤ). unsigned_abs common ∣ unsigned_abs z) (sym g) y)

pub divides_as : (m m' : ℤ) (n : ℕ) → m' ≡ m → unsigned_abs m ∣ n → unsigned_abs m' ∣ n
divides_as m m' n e x = subst (λ (z : ℤ). unsigned_abs z ∣ n) (sym e) x

pub positive_abs : (z : ℤ) → pos 1 ≤ℤ z → 0 < unsigned_abs z
positive_abs (pos n) h = omega (arith, ints, h)
positive_abs (negsuc n) h = absurd (omega (arith, ints, h))

pub lcm_as : (a b a' b' : ℤ) (n : ℕ) → a' ≡ a → b' ≡ b → IsLcm (unsigned_abs a') (unsigned_abs b') n → IsLcm (unsigned_abs a) (unsigned_abs b) n
lcm_as a b a' b' n e g l = subst (λ (z : ℤ). IsLcm (unsigned_abs z) (unsigned_abs b) n) e (subst (λ (z : ℤ). IsLcm (unsigned_abs a') (unsigned_abs z) n) g l)

-- the denominator of 0 divides each number
pub zero_divides : (f : Ratio) (common common' : ℤ) → f ≡ record { num = pos 0; den = pos 1 } → common' ≡ common → (unsigned_abs f.den ∣ unsigned_abs common') × (unsigned_abs common ∣ unsigned_abs common')
zero_divides f common common' e g =
    (subst (λ (r : Ratio). unsigned_abs r.den ∣ unsigned_abs common') (sym e) (one-dvd (unsigned_abs common')), subst (λ (z : ℤ). unsigned_abs common ∣ unsigned_abs z) (sym g) (dvd_refl (unsigned_abs common)))

pub half_is : IsDiscount (1, 2)
half_is = record { positive = omega arith; below_one = omega arith; lowest = (dvd_refl 1, one-dvd 2, λ d p q. p) }
