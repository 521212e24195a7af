-- Decimal digits and the numbers that they write.
use Rattle.std.proofs.Common.{◌≡◌, ◌≢◌, ℕ, zero, suc, ◌+◌, ◌*◌, ◌-◌, ◌<◌, ◌≤◌, ◌^◌, Bool, true, false, List, [], ◌∷◌, ◌++◌, length, get_or, take, cond, refl, sym, ap, subst, ◌∙◌, arith, ⊎_elim, lit<, add-one}
use Rattle.std.specs.Prelude.{count_by, Any}
use Rattle.std.specs.Char.{digit_value, is_ascii_digit}
use Rattle.std.specs.Str.Parse.{AllDigits, digits_value, digits_value_after}
use Rattle.std.proofs.Math.Nat.{add-zero, pow-suc, pow-le-pow_right}
use Rattle.std.proofs.lemmas.Bool.{cases_lt}
use Rattle.std.proofs.lemmas.Bool.Decides.{nat_tests}
use Rattle.std.proofs.lemmas.List.{take_more, get_or_default}
use Rattle.std.proofs.lemmas.List.Sums.{sum_by-append, sum_by-cons}

-- a digit is a byte from '0' to '9'
pub digit_byte : (c : ℕ) → digit_value c < 10 → (48 ≤ c) × (c < 58) × (digit_value c ≡ c - 48)
digit_byte c h = (grind (arith, nat_tests), grind (arith, nat_tests), grind (arith, nat_tests))

pub after-append : (n : ℕ) (xs ys : List ℕ) → digits_value_after 10 n (xs ++ ys) ≡ digits_value_after 10 (digits_value_after 10 n xs) ys
after-append n [] ys = refl
after-append n (x ∷ xs) ys = after-append (n * 10 + digit_value x) xs ys

pub after-more : (n : ℕ) (ds : List ℕ) (i : ℕ) → i < length ds → digits_value_after 10 n (take (i + 1) ds) ≡ digits_value_after 10 n (take i ds) * 10 + digit_value (get_or ds i 0)
after-more n ds i h = ap (digits_value_after 10 n) (take_more ds i 0 h) ∙ after-append n (take i ds) (get_or ds i 0 ∷ [])

pub digit_at : (ds : List ℕ) (i : ℕ) → AllDigits 10 ds → i < length ds → digit_value (get_or ds i 0) < 10
digit_at [] i a h = absurd (omega arith)
digit_at (d ∷ ds) zero a h = a.0
digit_at (d ∷ ds) (suc i) a h = digit_at ds i a.1 (omega arith)

next_power : (a n d : ℕ) → n < 10 ^ a → d < 10 → n * 10 + d < 10 ^ (a + 1)
next_power a n d h k = rw (add-one a, pow-suc) (omega arith)

-- each digit makes the number at most ten times as great
pub after_below : (a n : ℕ) (ds : List ℕ) → n < 10 ^ a → AllDigits 10 ds → digits_value_after 10 n ds < 10 ^ (a + length ds)
after_below a n [] h d = rw add-zero h
after_below a n (x ∷ xs) h d =
    let e : a + 1 + length xs ≡ a + suc (length xs) = omega arith in
    subst (λ k. digits_value_after 10 (n * 10 + digit_value x) xs < 10 ^ k) e
    (after_below (a + 1) (n * 10 + digit_value x) xs (next_power a n (digit_value x) h d.0) d.1)

pub step_below : (a i n c : ℕ) → n < 10 ^ (a + i) → digit_value c < 10 → n * 10 + (c - 48) < 10 ^ (a + (i + 1))
step_below a i n c h k =
    let e : a + i + 1 ≡ a + (i + 1) = omega arith in
    subst (λ m. n * 10 + (c - 48) < 10 ^ m) e (subst (λ d. n * 10 + d < 10 ^ (a + i + 1)) (digit_byte c k).2 (next_power (a + i) n (digit_value c) h k))

pub step_small : (a i n c : ℕ) → n < 10 ^ (a + i) → digit_value c < 10 → a + (i + 1) ≤ 36 → n * 10 + (c - 48) < 2 ^ 128
step_small a i n c h k l =
    let p : 10 ^ (a + (i + 1)) ≤ 10 ^ 36 = pow-le-pow_right (lit< tt) l in
    let q = step_below a i n c h k in
    let r : 10 ^ 36 < 2 ^ 128 = lit< tt in
    omega arith

-- ---- how many digits a text has
counted : (c : ℕ) → digit_value c < 10 → is_ascii_digit c ≡ true
counted c h = let p = digit_byte c h in grind (arith, nat_tests)

pub count_digits : (ds : List ℕ) → AllDigits 10 ds → count_by is_ascii_digit ds ≡ length ds
count_digits [] a = refl
count_digits (d ∷ ds) a =
    let e : cond {A = ℕ} (is_ascii_digit d) 1 0 ≡ 1 = ap (λ (b : Bool). cond {A = ℕ} b 1 0) (counted d a.0) in
    omega (arith, sum_by-cons (λ (x : ℕ). cond {A = ℕ} (is_ascii_digit x) 1 0) d ds, count_digits ds a.1)

-- digits, a byte that is none, and digits
pub count_parts : (ds es : List ℕ) (c : ℕ) → AllDigits 10 ds → AllDigits 10 es → is_ascii_digit c ≡ false → count_by is_ascii_digit (ds ++ c ∷ es) ≡ length ds + length es
count_parts ds es c a b n =
    let e : cond {A = ℕ} (is_ascii_digit c) 1 0 ≡ 0 = ap (λ (b : Bool). cond {A = ℕ} b 1 0) n in
    omega (arith, sum_by-append (λ (x : ℕ). cond {A = ℕ} (is_ascii_digit x) 1 0) ds (c ∷ es), sum_by-cons (λ (x : ℕ). cond {A = ℕ} (is_ascii_digit x) 1 0) c es, count_digits ds a, count_digits es b)

-- ---- a number that is 0 has no other digit than 0
value_zero : (n : ℕ) (ds : List ℕ) → AllDigits 10 ds → digits_value_after 10 n ds ≡ 0 → (n ≡ 0) × ((i : ℕ) → i < length ds → get_or ds i 0 ≡ 48)
value_zero n [] a e = (e, λ i h. absurd (omega arith))
value_zero n (d ∷ ds) a e =
    let r = value_zero (n * 10 + digit_value d) ds a.1 e in
    let b = digit_byte d a.0 in
    let n0 : n ≡ 0 = omega (arith, r.0) in
    let d0 : d ≡ 48 = omega (arith, r.0) in
    (n0, λ i h. elim i as (λ k. k < length (d ∷ ds) → get_or (d ∷ ds) k 0 ≡ 48) [ zero ↦ λ _. d0 | suc k ↦ λ l. r.1 k (omega arith) ] h)

pub no_other : (ds : List ℕ) → ((i : ℕ) → i < length ds → get_or ds i 0 ≡ 48) → Any (λ c. c ≢ 48) ds → ⊥
no_other ds z h = h.4 (sym h.3 ∙ get_or_default ds h.0 h.1 0 h.2 ∙ z h.0 h.2)

pub value_positive : (ds : List ℕ) → AllDigits 10 ds → Any (λ c. c ≢ 48) ds → 0 < digits_value 10 ds
value_positive ds a h =
    ⊎_elim (λ p. p) (λ p. absurd (let z : digits_value 10 ds ≡ 0 = omega arith in no_other ds ((value_zero 0 ds a z).1) h)) (cases_lt 0 (digits_value 10 ds))
