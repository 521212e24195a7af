-- What a report writes for a number is read as that number.
use Rattle.std.proofs.Common.{◌≡◌, ◌≢◌, ℕ, suc, ◌+◌, ◌*◌, ◌%◌, ◌<◌, ◌≤◌, ◌^◌, ◌==◌, ◌&&◌, Bool, true, false, if◌then◌else◌, List, [], ◌∷◌, ◌++◌, ◌⊎◌, ⊎_elim, Result, Ok, Err, refl, sym, ap, subst, ◌∙◌, arith, ℤ, pos, negsuc, neg_ℤ, ◌<ℤ◌}
use Rattle.std.specs.Prelude.{Any, nat_lt, decimal}
use Rattle.std.specs.Fmt.{signed_decimal}
use Rattle.std.specs.Char.{digit_value}
use Rattle.std.specs.Int.RustNames.{unsigned_abs}
use Rattle.std.specs.Int.{IsGcd}
use Rattle.std.specs.Ordering.{int_eq}
use Rattle.std.specs.Str.Parse.{IsNumeral, digits_value, digits_value_after}
use Rattle.std.proofs.lemmas.Bool.{true≢false, cases_lt}
use Rattle.std.proofs.lemmas.Bool.Decides.{nat_tests, Decides-int_eq}
use Rattle.std.proofs.lemmas.Fmt.{decimal_is_IsNumeral_wide, length-decimal-le_wide}
use Rattle.std.proofs.lemmas.Int.{ints}
use Rattle.std.proofs.lemmas.Nat.Gcd.{IsGcd-from_mod, IsGcd-from_zero}
use Rattle.pay_frac.specs.declared.numbers.NumberFault.{NumberFault}
use Rattle.pay_frac.specs.declared.numbers.NumberFault.TheVariants.{Beyond, NotNumber}
use Rattle.pay_frac.specs.Ratio.{Ratio, IsLowest, Equals}
use Rattle.pay_frac.specs.Spelling.{whole, fraction, form_den, Spelling, Spells, spelled_num, digit_count}
use Rattle.pay_frac.specs.Number.{all_zeros, lowest, number_from, number_of}
use Rattle.pay_frac.proofs.Deciding.{some_other}
use Rattle.pay_frac.proofs.Digits.{count_digits}
use Rattle.pay_frac.proofs.Exactly.{spelling_again, lowest_is}
use Rattle.pay_frac.proofs.Reduce.{lowest_same}
use Rattle.pay_frac.proofs.Spellings.{digit_count_signed}
use Rattle.report_lines.specs.Spelled.{ratio_word}

and_is : (a b : Bool) → (a && b) ≡ true → (a ≡ true) × (b ≡ true)
and_is true b e = (refl, e)
and_is false b e = absurd (true≢false (sym e))

is_zero : (d : ℕ) → (d == 48) ≡ true → d ≡ 48
is_zero d h = grind (arith, nat_tests)

zeros_value : (n : ℕ) (ds : List ℕ) → all_zeros ds ≡ true → n ≡ 0 → digits_value_after 10 n ds ≡ 0
zeros_value n [] h e = e
zeros_value n (d ∷ ds) h e =
    let p = and_is (d == 48) (all_zeros ds) h in
    let z : digit_value d ≡ 0 = ap digit_value (is_zero d p.0) in
    zeros_value (n * 10 + digit_value d) ds p.1 (omega arith)

numeral : (n : ℕ) → n < 2 ^ 127 → IsNumeral 10 (decimal n) × (digits_value 10 (decimal n) ≡ n)
numeral n h = decimal_is_IsNumeral_wide n (omega arith)

-- a positive number has another digit than 0
other_digit : (n : ℕ) → 0 < n → n < 2 ^ 127 → Any (λ c. c ≢ 48) (decimal n)
other_digit n p h =
    let by : (b : Bool) → all_zeros (decimal n) ≡ b → Any (λ c. c ≢ 48) (decimal n) =
    λ b. elim b as (λ b. all_zeros (decimal n) ≡ b → Any (λ c. c ≢ 48) (decimal n)) [
      | true ↦ λ e.
          let v : digits_value 10 (decimal n) ≡ 0 = zeros_value 0 (decimal n) e refl in
          let w : digits_value 10 (decimal n) ≡ n = (numeral n h).1 in
          absurd (omega arith)
      | false ↦ λ e. some_other (decimal n) e
    ] in
    by (all_zeros (decimal n)) refl

-- a word, the number that it spells over 1 or more
record Spelled (word : List ℕ) (num : ℤ) (den : ℕ) : Type 0 where
  spelling : Spelling
  spells : Spells word spelling
  num_is : spelled_num spelling ≡ num
  den_is : form_den spelling.form ≡ den

whole_spelled : (z : ℤ) → unsigned_abs z < 2 ^ 127 → Spelled (signed_decimal z) z 1
whole_spelled (pos n) h =
    let k = numeral n h in
    record {
      spelling = record { negative = false; form = whole (decimal n) };
      spells = record { text = refl; form = k.0 };
      num_is = ap (λ (m : ℕ). pos m) k.1;
      den_is = refl;
    }
whole_spelled (negsuc n) h =
    let k = numeral (suc n) h in
    record {
      spelling = record { negative = true; form = whole (decimal (suc n)) };
      spells = record { text = refl; form = k.0 };
      num_is = ap (λ (m : ℕ). neg_ℤ (pos m)) k.1;
      den_is = refl;
    }

fraction_spelled : (z : ℤ) (d : ℕ) → unsigned_abs z < 2 ^ 127 → 0 < d → d < 2 ^ 127 → Spelled (signed_decimal z ++ 47 ∷ decimal d) z d
fraction_spelled (pos n) d h p l =
    let k = numeral n h in
    let m = numeral d l in
    record {
      spelling = record { negative = false; form = fraction (decimal n) (decimal d) };
      spells = record { text = refl; form = (k.0, m.0.1, other_digit d p l) };
      num_is = ap (λ (m : ℕ). pos m) k.1;
      den_is = m.1;
    }
fraction_spelled (negsuc n) d h p l =
    let k = numeral (suc n) h in
    let m = numeral d l in
    record {
      spelling = record { negative = true; form = fraction (decimal (suc n)) (decimal d) };
      spells = record { text = refl; form = (k.0, m.0.1, other_digit d p l) };
      num_is = ap (λ (m : ℕ). neg_ℤ (pos m)) k.1;
      den_is = m.1;
    }

positive_is : (z : ℤ) → pos 0 <ℤ z → z ≡ pos (unsigned_abs z)
positive_is (pos n) h = refl
positive_is (negsuc n) h = absurd (omega (arith, ints))

abs_positive : (z : ℤ) → pos 0 <ℤ z → 0 < unsigned_abs z
abs_positive (pos n) h = omega (arith, ints)
abs_positive (negsuc n) h = absurd (omega (arith, ints))

ratio_spelled : (r : Ratio) → IsLowest r → Spelled (ratio_word r) r.num (unsigned_abs r.den)
ratio_spelled r low =
    let D = unsigned_abs r.den in
    let by : (b : Bool) → int_eq r.den (pos 1) ≡ b → Spelled (if b then signed_decimal r.num else (signed_decimal r.num ++ 47 ∷ signed_decimal r.den)) r.num D =
    λ b. elim b as (λ b. int_eq r.den (pos 1) ≡ b → Spelled (if b then signed_decimal r.num else (signed_decimal r.num ++ 47 ∷ signed_decimal r.den)) r.num D) [
      | true ↦ λ e. subst (λ d. Spelled (signed_decimal r.num) r.num d) (sym (ap unsigned_abs ((Decides-int_eq r.den (pos 1)).0 e))) (whole_spelled r.num low.num_fits)
      | false ↦ λ e. subst (λ w. Spelled (signed_decimal r.num ++ 47 ∷ w) r.num D) (sym (ap signed_decimal (positive_is r.den low.positive))) (fraction_spelled r.num D low.num_fits (abs_positive r.den low.positive) low.den_fits)
    ] in
    by (int_eq r.den (pos 1)) refl

-- what a report writes for a fraction is read as that fraction
pub number_again : (r : Ratio) → IsLowest r → digit_count (ratio_word r) ≤ 36 → number_of (ratio_word r) ≡ Ok r
unfolding number_of
number_again r low few =
    let k = ratio_spelled r low in
    let s = k.spelling in
    let n : spelled_num s ≡ r.num = k.num_is in
    let d : form_den s.form ≡ unsigned_abs r.den = k.den_is in
    let q = lowest_is (spelled_num s) (form_den s.form)
    (subst (λ x. 0 < x) (sym d) (abs_positive r.den low.positive))
    (subst (λ x. unsigned_abs x < 2 ^ 127) (sym n) low.num_fits)
    (subst (λ x. x < 2 ^ 127) (sym d) low.den_fits) in
    let e : Equals (lowest (spelled_num s) (form_den s.form)) r.num r.den =
    subst (λ x. Equals (lowest (spelled_num s) (form_den s.form)) r.num x) (ap (λ (m : ℕ). pos m) d ∙ sym (positive_is r.den low.positive))
    (subst (λ x. Equals (lowest (spelled_num s) (form_den s.form)) x (pos (form_den s.form))) n q.1) in
    let f : nat_lt 36 (digit_count (ratio_word r)) ≡ false = grind (arith, nat_tests) in
    let Many : Result Ratio NumberFault = Err (Beyond (digit_count (ratio_word r))) in
    let Low : Result Ratio NumberFault = Ok (lowest (spelled_num s) (form_den s.form)) in
    ap (number_from (ratio_word r)) (spelling_again (ratio_word r) s k.spells)
    ∙ ap (λ (b : Bool). if b then Many else Low) f
    ∙ ap (λ (x : Ratio). Ok x) (lowest_same (lowest (spelled_num s) (form_den s.form)) r q.0 low e)

-- ---- whole numbers
abbrev pub over_one : ℤ → Ratio
over_one x = record { num = x; den = pos 1 }

decimal_count : (n : ℕ) → n < 10 ^ 36 → digit_count (decimal n) ≤ 36
decimal_count n h =
    let k = decimal_is_IsNumeral_wide n (omega arith) in
    omega (arith, count_digits (decimal n) k.0.1, length-decimal-le_wide 36 n (omega arith) h (omega arith))

pub whole_count : (x : ℤ) → unsigned_abs x < 10 ^ 36 → digit_count (signed_decimal x) ≤ 36
whole_count (pos n) h = decimal_count n h
whole_count (negsuc n) h = omega (arith, digit_count_signed true (decimal (suc n)), decimal_count (suc n) h)

gcd_of_one : (a : ℕ) → IsGcd a 1 1
gcd_of_one a = IsGcd-from_mod a 1 1 (IsGcd-from_zero 1 (a % 1) (omega arith))

pub over_one_lowest : (x : ℤ) → unsigned_abs x < 10 ^ 36 → IsLowest (over_one x)
over_one_lowest x h = record { positive = omega (arith, ints); coprime = gcd_of_one (unsigned_abs x); num_fits = omega arith; den_fits = omega arith }

-- a word that was read has at most 36 digits
pub few_digits : (word : List ℕ) (r : Result Ratio NumberFault) (f : Ratio)
    → ((s : Spelling) → Spells word s → 36 < digit_count word → r ≡ Err (Beyond (digit_count word)))
    → ((s : Spelling) × Spells word s) ⊎ (r ≡ Err NotNumber)
    → r ≡ Ok f → digit_count word ≤ 36
few_digits word r f many spelled e =
    ⊎_elim
    (λ (k : (s : Spelling) × Spells word s). ⊎_elim (λ (l : 36 < digit_count word). let b : r ≡ Err (Beyond (digit_count word)) = many k.0 k.1 l in absurd (cc)) (λ (g : digit_count word ≤ 36). g) (cases_lt 36 (digit_count word)))
    (λ (b : r ≡ Err NotNumber). absurd (cc))
    spelled

-- what is kept of a word that was read has at most 36 digits
pub few_kept : (word : List ℕ) (f : Ratio) → digit_count word ≤ 36 → (word ≡ ratio_word f) ⊎ (f ≡ record { num = pos 0; den = pos 1 }) → digit_count (ratio_word f) ≤ 36
few_kept word f few h =
    ⊎_elim
    (λ (e : word ≡ ratio_word f). subst (λ w. digit_count w ≤ 36) e few)
    (λ (e : f ≡ record { num = pos 0; den = pos 1 }). subst (λ r. digit_count (ratio_word r) ≤ 36) (sym e) (whole_count (pos 0) (omega arith)))
    h

pub zero_few : (f : Ratio) → f ≡ record { num = pos 0; den = pos 1 } → digit_count (ratio_word f) ≤ 36
zero_few f e = subst (λ r. digit_count (ratio_word r) ≤ 36) (sym e) (whole_count (pos 0) (omega arith))

pub same_ok : (f r : Ratio) (o : Result Ratio NumberFault) → Ok f ≡ o → o ≡ Ok r → f ≡ r
same_ok f r o p q = cc

pub no_err : (e : NumberFault) (r : Ratio) (o : Result Ratio NumberFault) → Err e ≡ o → o ≡ Ok r → ⊥
no_err e r o p q = cc

-- what is read of the word that a report writes
pub word_again : (word : List ℕ) (r : Ratio) → IsLowest r → digit_count (ratio_word r) ≤ 36 → word ≡ ratio_word r → number_of word ≡ Ok r
word_again word r low few e = ap number_of e ∙ number_again r low few
