-- Words of numbers are no names: their first bytes are below those of letters.
use Rattle.std.proofs.Common.{◌≡◌, ℕ, ◌<◌, ◌^◌, Bool, true, false, if◌then◌else◌, List, [], ◌∷◌, ◌++◌, length, get_or, drop, refl, ap, subst, ◌∙◌, arith, ℤ, pos, negsuc, neg_ℤ, ◌≤ℤ◌}
use Rattle.std.specs.Prelude.{codes, decimal, Option, Some, None}
use Rattle.std.specs.Fmt.{signed_decimal}
use Rattle.std.specs.Int.RustNames.{unsigned_abs}
use Rattle.std.specs.Ordering.{int_eq}
use Rattle.std.specs.Str.Parse.{AllDigits}
use Rattle.std.proofs.lemmas.Fmt.{decimal_is_IsNumeral_wide}
use Rattle.pay_frac.specs.Ratio.{Ratio, IsLowest}
use Rattle.pay_frac.proofs.Digits.{digit_byte}
use Rattle.report_lines.specs.Spelled.{ratio_word}
use Rattle.level_table.specs.declared.level.Level.{Level}
use Rattle.level_table.specs.declared.level.Level.TheVariants.{Empty, At}
use Rattle.level_table.specs.Levels.{IsSmall}
use Rattle.report_text.specs.ReportText.{level_word, reached_word}
use Rattle.report_text.specs.Rules.{IsShortValue}
use Rattle.report_text.proofs.TextWords.{small_abs}

digit_first : (ds : List ℕ) (b : ℕ) (bs : List ℕ) → AllDigits 10 ds → ds ≡ b ∷ bs → b < 58
digit_first ds b bs h e = let k : AllDigits 10 (b ∷ bs) = subst (AllDigits 10) e h in (digit_byte b k.0).1

signed_first : (x : ℤ) (b : ℕ) (bs : List ℕ) → unsigned_abs x < 10 ^ 64 → signed_decimal x ≡ b ∷ bs → b < 58
signed_first (pos n) b bs h e = digit_first (decimal n) b bs (decimal_is_IsNumeral_wide n h).0.1 e
signed_first (negsuc n) b bs h e = let f : 45 ≡ b = ap (λ (xs : List ℕ). get_or xs 0 0) e in omega arith

signed_some : (x : ℤ) → unsigned_abs x < 10 ^ 64 → 0 < length (signed_decimal x)
signed_some (pos n) h = (decimal_is_IsNumeral_wide n h).0.0
signed_some (negsuc n) h = omega arith

append_first : (xs ys : List ℕ) (b : ℕ) (bs : List ℕ) → 0 < length xs → xs ++ ys ≡ b ∷ bs → (rest : List ℕ) × (xs ≡ b ∷ rest)
append_first [] ys b bs h e = absurd (omega arith)
append_first (x ∷ xs) ys b bs h e = (xs, ap (λ (c : ℕ). c ∷ xs) (ap (λ (ws : List ℕ). get_or ws 0 0) e))

wide : (n : ℕ) → n < 2 ^ 127 → n < 10 ^ 64
wide n h = omega arith

ratio_first : (r : Ratio) (b : ℕ) (bs : List ℕ) → IsLowest r → ratio_word r ≡ b ∷ bs → b < 58
ratio_first r b bs low =
    let num : unsigned_abs r.num < 10 ^ 64 = wide (unsigned_abs r.num) low.num_fits in
    let by : (t : Bool) → (if t then signed_decimal r.num else (signed_decimal r.num ++ 47 ∷ signed_decimal r.den)) ≡ b ∷ bs → b < 58 =
    λ t. elim t as (λ t. (if t then signed_decimal r.num else (signed_decimal r.num ++ 47 ∷ signed_decimal r.den)) ≡ b ∷ bs → b < 58) [
      | true ↦ λ e. signed_first r.num b bs num e
      | false ↦ λ e. let k = append_first (signed_decimal r.num) (47 ∷ signed_decimal r.den) b bs (signed_some r.num num) e in signed_first r.num b k.0 num k.1
    ] in
    by (int_eq r.den (pos 1))

-- a level that is written `empty` is Empty
pub empty_is : (l : Level) → IsSmall l → level_word l ≡ codes "empty" → l ≡ Empty
empty_is Empty h e = refl
empty_is (At x) h e = let k : 101 < 58 = signed_first x 101 (codes "mpty") (small_abs x h.0 h.1) e in absurd (omega arith)

pub none_is : (o : Option Ratio) → IsShortValue o → reached_word o ≡ codes "none" → o ≡ None
none_is None h e = refl
none_is (Some q) h e = let k : 110 < 58 = ratio_first q 110 (codes "one") h.0 e in absurd (omega arith)

-- the word of a fraction isn't `unit`
pub no_unit : (r : Ratio) → IsLowest r → ratio_word r ≡ codes "unit" → ⊥
no_unit r low e = let k : 117 < 58 = ratio_first r 117 (codes "nit") low e in omega arith

-- what is read where a level isn't written `empty`
pub level_read : (l : Level) (rest words words' : List (List ℕ)) (v : ℤ) → IsSmall l → words ≡ level_word l ∷ rest → (get_or words 0 [] ≡ codes "empty" → ⊥)
    → ((x : ℤ) → get_or words 0 [] ≡ signed_decimal x → neg_ℤ (pos (2 ^ 50)) ≤ℤ x → x ≤ℤ pos (2 ^ 50) → v ≡ x) → words' ≡ drop 1 words → (At v ≡ l) × (words' ≡ rest)
level_read Empty rest words words' v small e other read d = absurd (other (ap (λ (ws : List (List ℕ)). get_or ws 0 []) e))
level_read (At x) rest words words' v small e other read d = (ap (λ (z : ℤ). At z) (read x (ap (λ (ws : List (List ℕ)). get_or ws 0 []) e) small.0 small.1), d ∙ ap (drop 1) e)
