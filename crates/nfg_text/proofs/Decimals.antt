-- What is written of a number is a word that reads as this number.
use Rattle.std.proofs.Common.{◌≡◌, ◌≢◌, ℕ, zero, suc, ◌+◌, ◌*◌, ◌<◌, ◌≤◌, ◌^◌, ◌==◌, ◌&&◌, Bool, true, false, not, cond, if◌then◌else◌, List, [], ◌∷◌, ◌++◌, length, Option, Some, None, Result, Ok, Err, ℤ, pos, negsuc, neg_ℤ, ◌*ℤ◌, ◌<ℤ◌, refl, sym, ◌∙◌, ap, subst, arith, lit<, lit≤}
use Rattle.std.specs.Prelude.{nat_lt, Any, decimal}
use Rattle.std.specs.Option.{option_map}
use Rattle.std.specs.Char.{digit_value}
use Rattle.std.specs.Fmt.{signed_decimal}
use Rattle.std.specs.Ordering.{int_eq}
use Rattle.std.specs.Int.RustNames.{unsigned_abs}
use Rattle.std.specs.Str.Parse.{AllDigits, IsNumeral, digits_value, digits_value_after}
use Rattle.std.proofs.lemmas.Fmt.{decimal_is_IsNumeral_wide, length-decimal-le_wide}
use Rattle.std.proofs.lemmas.Int.{ints}
use Rattle.std.proofs.lemmas.Bool.{true≢false}
use Rattle.std.proofs.lemmas.Bool.Decides.{nat_tests, Decides-int_eq}
use Rattle.pay_frac.specs.declared.numbers.NumberFault.TheVariants.{NotNumber, Beyond}
use Rattle.pay_frac.specs.Ratio.{Ratio, IsLowest, Equals}
use Rattle.pay_frac.specs.Spelling.{Form, whole, fraction, form_text, IsForm, Spelling, Spells, signed_text, signed_num, spelled_num, spelled_den, digit_count}
use Rattle.pay_frac.specs.Number.{all_digits, all_zeros, whole_of, number_of}
use Rattle.pay_frac.proofs.Digits.{digit_byte}
use Rattle.pay_frac.proofs.Deciding.{true_digits, some_other}
use Rattle.pay_frac.proofs.Exactly.{number_exact}
use Rattle.pay_frac.proofs.Laws.{one_spelling}
use Rattle.token_text.specs.Tokens.{is_word_byte}
use Rattle.token_text.proofs.Written.{are_word_bytes, is_word, both}
use Rattle.nfg_text.specs.declared.what.What.{What}
use Rattle.nfg_text.specs.Wanted.{limited}
use Rattle.nfg_text.specs.Canonical.{ratio_text}
use Rattle.nfg_text.specs.Writable.{IsShort}

-- ---- whole numbers
positive_again : (n : ℕ) → 0 < n → nat_lt 0 n ≡ true
positive_again n h = grind (arith, nat_tests)

not_less : (m n : ℕ) → n ≤ m → nat_lt m n ≡ false
not_less m n h = grind (arith, nat_tests)

pub whole_again : (n : ℕ) → n < 10 ^ 64 → whole_of (decimal n) ≡ Some n
whole_again n h =
    let d : IsNumeral 10 (decimal n) × (digits_value 10 (decimal n) ≡ n) = decimal_is_IsNumeral_wide n h in
    let p : nat_lt 0 (length (decimal n)) ≡ true = positive_again (length (decimal n)) d.0.0 in
    let q : all_digits (decimal n) ≡ true = true_digits (decimal n) d.0.1 in
    let value : ℕ = digits_value 10 (decimal n) in
    ap (λ v. if v && all_digits (decimal n) then Some value else None) p
    ∙ ap (λ v. if v then Some value else None) q
    ∙ ap (λ m. Some m) d.1

-- its digits are few, and the limit isn't passed
pub limited_again : (what : What) (most at n : ℕ) → n ≤ most → n < 10 ^ 36 → n < 10 ^ 64 → limited what most at (n, length (decimal n)) ≡ Ok n
limited_again what most at n h small fits =
    let few : length (decimal n) ≤ 36 = length-decimal-le_wide 36 n (lit< tt) small fits in
    let p : nat_lt 36 (length (decimal n)) ≡ false = not_less 36 (length (decimal n)) few in
    let q : nat_lt most n ≡ false = not_less most n h in
    rw (p, q) refl

-- ---- words
differs : (c k : ℕ) → c ≢ k → (c == k) ≡ false
differs c k n = grind (arith, nat_tests)

-- '-', '/' and the digits
middle : (c : ℕ) → 44 < c → c < 58 → is_word_byte c ≡ true
middle c h k =
    let space : (c == 32) ≡ false = differs c 32 (λ e. omega arith) in
    let tab : (c == 9) ≡ false = differs c 9 (λ e. omega arith) in
    let back : (c == 13) ≡ false = differs c 13 (λ e. omega arith) in
    let feed : (c == 10) ≡ false = differs c 10 (λ e. omega arith) in
    let comma : (c == 44) ≡ false = differs c 44 (λ e. omega arith) in
    let open_ : (c == 123) ≡ false = differs c 123 (λ e. omega arith) in
    let close_ : (c == 125) ≡ false = differs c 125 (λ e. omega arith) in
    let quote_ : (c == 34) ≡ false = differs c 34 (λ e. omega arith) in
    rw (space, tab, back, feed, comma, open_, close_, quote_) refl

both_again : (a b : Bool) → a ≡ true → b ≡ true → (a && b) ≡ true
both_again a b p q = ap (λ v. v && b) p ∙ q

digit_middle : (c : ℕ) → digit_value c < 10 → is_word_byte c ≡ true
digit_middle c h = let p = digit_byte c h in middle c (omega arith) (omega arith)

digits_words : (ds : List ℕ) → AllDigits 10 ds → are_word_bytes ds ≡ true
digits_words [] h = refl
digits_words (d ∷ ds) h = both_again (is_word_byte d) (are_word_bytes ds) (digit_middle d h.0) (digits_words ds h.1)

nonempty_word : (w : List ℕ) → 0 < length w → are_word_bytes w ≡ true → is_word w ≡ true
nonempty_word [] l h = absurd (omega arith)
nonempty_word (b ∷ bs) l h = h

pub decimal_word : (n : ℕ) → n < 10 ^ 64 → is_word (decimal n) ≡ true
decimal_word n h =
    let d : IsNumeral 10 (decimal n) × (digits_value 10 (decimal n) ≡ n) = decimal_is_IsNumeral_wide n h in
    nonempty_word (decimal n) d.0.0 (digits_words (decimal n) d.0.1)

words_append : (xs ys : List ℕ) → are_word_bytes xs ≡ true → are_word_bytes ys ≡ true → are_word_bytes (xs ++ ys) ≡ true
words_append [] ys h k = k
words_append (x ∷ xs) ys h k =
    let p = both (is_word_byte x) (are_word_bytes xs) h in
    both_again (is_word_byte x) (are_word_bytes (xs ++ ys)) p.0 (words_append xs ys p.1 k)

-- ---- fractions
abbrev is_negative : ℤ → Bool
is_negative (pos n) = false
is_negative (negsuc n) = true

signed_is : (z : ℤ) → signed_decimal z ≡ signed_text (is_negative z) (decimal (unsigned_abs z))
signed_is (pos n) = refl
signed_is (negsuc n) = refl

signed_again : (z : ℤ) → signed_num (is_negative z) (unsigned_abs z) ≡ z
signed_again (pos n) = refl
signed_again (negsuc n) = refl

signed_append : (v : Bool) (xs ys : List ℕ) → signed_text v xs ++ ys ≡ signed_text v (xs ++ ys)
signed_append true xs ys = refl
signed_append false xs ys = refl

signed_words : (v : Bool) (xs : List ℕ) → are_word_bytes xs ≡ true → 0 < length xs → is_word (signed_text v xs) ≡ true
signed_words true xs h l = h
signed_words false xs h l = nonempty_word xs l h

positive_is : (z : ℤ) → pos 0 <ℤ z → z ≡ pos (unsigned_abs z)
positive_is (pos n) h = refl
positive_is (negsuc n) h = absurd (omega (arith, ints))

zero_is : (d : ℕ) → (d == 48) ≡ true → d ≡ 48
zero_is d h = grind (arith, nat_tests)

zeros_value : (ds : List ℕ) → all_zeros ds ≡ true → digits_value_after 10 0 ds ≡ 0
zeros_value [] h = refl
zeros_value (d ∷ ds) h =
    let p = both (d == 48) (all_zeros ds) h in
    ap (λ d. digits_value_after 10 (0 * 10 + digit_value d) ds) (zero_is d p.0) ∙ zeros_value ds p.1

other_than_zero : (n : ℕ) → 0 < n → n < 10 ^ 64 → Any (λ c. c ≢ 48) (decimal n)
other_than_zero n p h =
    let d : IsNumeral 10 (decimal n) × (digits_value 10 (decimal n) ≡ n) = decimal_is_IsNumeral_wide n h in
    let by : (v : Bool) → all_zeros (decimal n) ≡ v → all_zeros (decimal n) ≡ false =
    λ v. elim v as (λ v. all_zeros (decimal n) ≡ v → all_zeros (decimal n) ≡ false) [
      | true ↦ λ e.
          let z : digits_value 10 (decimal n) ≡ 0 = zeros_value (decimal n) e in
          let same : digits_value 10 (decimal n) ≡ n = d.1 in
          absurd (omega arith)
      | false ↦ λ e. e
    ] in
    some_other (decimal n) (by (all_zeros (decimal n)) refl)

-- what is written of a fraction spells it
pub record Spelled (r : Ratio) : Type 0 where
  pub spelling : Spelling
  pub spells : Spells (ratio_text r) spelling
  pub same : Equals r (spelled_num spelling) (spelled_den spelling)
  pub is_one : is_word (ratio_text r) ≡ true

wide : (n : ℕ) → n < 2 ^ 127 → n < 10 ^ 64
wide n h = let l : 2 ^ 127 < 10 ^ 64 = lit< tt in omega arith

whole_spelled : (r : Ratio) → IsLowest r → int_eq r.den (pos 1) ≡ true → Spelled r
whole_spelled r h e =
    let n : ℕ = unsigned_abs r.num in
    let v : Bool = is_negative r.num in
    let fits : n < 10 ^ 64 = wide n h.num_fits in
    let d : IsNumeral 10 (decimal n) × (digits_value 10 (decimal n) ≡ n) = decimal_is_IsNumeral_wide n fits in
    let one : r.den ≡ pos 1 = (Decides-int_eq r.den (pos 1)).0 e in
    let num : signed_num v (digits_value 10 (decimal n)) ≡ r.num = ap (signed_num v) d.1 ∙ signed_again r.num in
    let text : ratio_text r ≡ signed_text v (decimal n) =
    ap (λ b. if b then signed_decimal r.num else (signed_decimal r.num ++ 47 ∷ signed_decimal r.den)) e ∙ signed_is r.num in
    record {
      spelling = record { negative = v; form = whole (decimal n) };
      spells = record { text = text; form = d.0 };
      same = ap (λ z. r.num *ℤ z) (sym one) ∙ ap (λ z. z *ℤ r.den) (sym num);
      is_one = ap is_word text ∙ signed_words v (decimal n) (digits_words (decimal n) d.0.1) d.0.0;
    }

longer : (xs ys : List ℕ) → 0 < length xs → 0 < length (xs ++ ys)
longer [] ys h = absurd (omega arith)
longer (x ∷ xs) ys h = omega arith

fraction_spelled : (r : Ratio) → IsLowest r → int_eq r.den (pos 1) ≡ false → Spelled r
fraction_spelled r h e =
    let n : ℕ = unsigned_abs r.num in
    let m : ℕ = unsigned_abs r.den in
    let v : Bool = is_negative r.num in
    let fits : n < 10 ^ 64 = wide n h.num_fits in
    let below : m < 10 ^ 64 = wide m h.den_fits in
    let den : r.den ≡ pos m = positive_is r.den h.positive in
    let up : pos 0 <ℤ r.den = h.positive in
    let above : 0 < m = omega (arith, ints) in
    let d : IsNumeral 10 (decimal n) × (digits_value 10 (decimal n) ≡ n) = decimal_is_IsNumeral_wide n fits in
    let k : IsNumeral 10 (decimal m) × (digits_value 10 (decimal m) ≡ m) = decimal_is_IsNumeral_wide m below in
    let num : signed_num v (digits_value 10 (decimal n)) ≡ r.num = ap (signed_num v) d.1 ∙ signed_again r.num in
    let same_den : pos (digits_value 10 (decimal m)) ≡ r.den = ap pos k.1 ∙ sym den in
    let text : ratio_text r ≡ signed_text v (decimal n ++ 47 ∷ decimal m) =
    ap (λ b. if b then signed_decimal r.num else (signed_decimal r.num ++ 47 ∷ signed_decimal r.den)) e
    ∙ ap (λ xs. xs ++ 47 ∷ signed_decimal r.den) (signed_is r.num)
    ∙ ap (λ z. signed_text v (decimal n) ++ 47 ∷ signed_decimal z) den
    ∙ signed_append v (decimal n) (47 ∷ decimal m) in
    let stroke : are_word_bytes (47 ∷ decimal m) ≡ true = digits_words (decimal m) k.0.1 in
    let words : are_word_bytes (decimal n ++ 47 ∷ decimal m) ≡ true = words_append (decimal n) (47 ∷ decimal m) (digits_words (decimal n) d.0.1) stroke in
    record {
      spelling = record { negative = v; form = fraction (decimal n) (decimal m) };
      spells = record { text = text; form = (d.0, k.0.1, other_than_zero m above below) };
      same = ap (λ z. r.num *ℤ z) same_den ∙ ap (λ z. z *ℤ r.den) (sym num);
      is_one = ap is_word text ∙ signed_words v (decimal n ++ 47 ∷ decimal m) words (longer (decimal n) (47 ∷ decimal m) d.0.0);
    }

pub spelled : (r : Ratio) → IsLowest r → Spelled r
spelled r h =
    let by : (v : Bool) → int_eq r.den (pos 1) ≡ v → Spelled r =
    λ v. elim v as (λ v. int_eq r.den (pos 1) ≡ v → Spelled r) [ true ↦ λ e. whole_spelled r h e | false ↦ λ e. fraction_spelled r h e ] in
    by (int_eq r.den (pos 1)) refl

pub number_again : (r : Ratio) → IsShort r → number_of (ratio_text r) ≡ Ok r
number_again r h =
    let s : Spelled r = spelled r h.0 in
    let token : List ℕ = ratio_text r in
    let few : digit_count token ≤ 36 = h.1 in
    sym (number_exact token (Ok r)
    (λ none. absurd (none s.spelling s.spells))
    (λ t k l. absurd (omega arith))
    (λ t k l. subst (λ (t : Spelling). Equals r (spelled_num t) (spelled_den t) × IsLowest r) (one_spelling token s.spelling t s.spells k) (s.same, h.0)))

pub ratio_word : (r : Ratio) → IsShort r → is_word (ratio_text r) ≡ true
ratio_word r h = (spelled r h.0).is_one
