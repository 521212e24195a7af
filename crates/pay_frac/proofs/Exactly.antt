-- The number that a token spells, as a function of the token.
use Rattle.std.proofs.Common.{lit<, ◌≡◌, ◌≢◌, ℕ, zero, suc, ◌+◌, ◌++◌, length, ◌%◌, ◌<◌, ◌≤◌, ◌^◌, ◌==◌, Bool, true, false, if◌then◌else◌, List, [], ◌∷◌, get_or, Option, Some, None, Result, Ok, Err, refl, sym, ap, subst, ◌∙◌, arith}
use Rattle.std.specs.Prelude.{ℤ, pos, ◌*ℤ◌, ◌<ℤ◌, IsOkAnd, nat_lt}
use Rattle.std.specs.Option.{option_map}
use Rattle.std.specs.Int.RustNames.{unsigned_abs}
use Rattle.std.specs.Int.{IsGcd}
use Rattle.std.proofs.lemmas.Bool.Decides.{nat_tests}
use Rattle.std.proofs.lemmas.Option.{same_Some, none-some}
use Rattle.std.proofs.lemmas.Int.{ints}
use Rattle.std.proofs.lemmas.Nat.Gcd.{IsGcd-from_zero, IsGcd-from_mod}
use Rattle.exact_algebra.specs.Poly.{var, ◌⊗◌}
use Rattle.exact_algebra.proofs.Normal.{ring}
use Rattle.exact_algebra.proofs.Order.{same_from_times}
use Rattle.pay_frac.specs.declared.numbers.NumberFault.{NumberFault}
use Rattle.pay_frac.specs.declared.numbers.NumberFault.TheVariants.{NotNumber, Beyond}
use Rattle.pay_frac.specs.Ratio.{Ratio, IsLowest, Equals}
use Rattle.pay_frac.specs.Spelling.{Form, whole, decimal, fraction, form_text, form_num, form_den, IsForm, Spelling, Spells, signed_text, signed_num, spelled_num, spelled_den, digit_count}
use Rattle.pay_frac.specs.Number.{form_after, spelling_of, euclid, lowest, number_from, number_of}
use Rattle.pay_frac.proofs.Deciding.{found, form_again}
use Rattle.std.proofs.Math.Nat.{pow-le-pow_right}
use Rattle.std.proofs.lemmas.List.{length-append}
use Rattle.std.specs.Str.Parse.{AllDigits, digits_value}
use Rattle.pay_frac.proofs.Digits.{after_below}
use Rattle.pay_frac.proofs.Forms.{all_append, count_form, form_digits, form_num_small, form_den_small, form_den_positive}
use Rattle.pay_frac.proofs.Reduce.{divisor_positive, no_greater, reduced_by, lowest_same}
use Rattle.pay_frac.proofs.Spellings.{unsigned_start, digit_count_signed}

minus_is : (b : ℕ) → (b == 45) ≡ true → b ≡ 45
minus_is b h = grind (arith, nat_tests)

no_minus : (b : ℕ) → b ≢ 45 → (b == 45) ≡ false
no_minus b h = grind (arith, nat_tests)

mapped : (o : Option Form) (v : Bool) (s : Spelling) → option_map (λ (f : Form). record { negative = v; form = f }) o ≡ Some s → (f : Form) × (o ≡ Some f) × (s ≡ record { negative = v; form = f })
mapped None v s e = absurd (none-some s e)
mapped (Some f) v s e = (f, refl, sym (same_Some (record { negative = v; form = f }) s e))

-- what is found spells the token
pub spelling_is : (token : List ℕ) (s : Spelling) → spelling_of token ≡ Some s → Spells token s
spelling_is [] s e = absurd (none-some s e)
spelling_is (b ∷ bs) s e =
    let Maps : Bool → List ℕ → Option Spelling = λ v w. option_map (λ (f : Form). record { negative = v; form = f }) (form_after [] w) in
    let by : (v : Bool) → (b == 45) ≡ v → (if v then Maps true bs else Maps false (b ∷ bs)) ≡ Some s → Spells (b ∷ bs) s =
    λ v. elim v as (λ v. (b == 45) ≡ v → (if v then Maps true bs else Maps false (b ∷ bs)) ≡ Some s → Spells (b ∷ bs) s) [
      | true ↦ λ t k.
          let m = mapped (form_after [] bs) true s k in
          let f = found [] bs m.0 tt m.1 in
          let h : Spells (b ∷ bs) (record { negative = true; form = m.0 }) = record { text = ap (λ c. c ∷ bs) (minus_is b t) ∙ ap (λ xs. 45 ∷ xs) f.1; form = f.0 } in
          subst (Spells (b ∷ bs)) (sym m.2) h
      | false ↦ λ t k.
          let m = mapped (form_after [] (b ∷ bs)) false s k in
          let f = found [] (b ∷ bs) m.0 tt m.1 in
          let h : Spells (b ∷ bs) (record { negative = false; form = m.0 }) = record { text = f.1; form = f.0 } in
          subst (Spells (b ∷ bs)) (sym m.2) h
    ] in
    by (b == 45) refl e

unsigned_again : (w : List ℕ) (f : Form) → IsForm f → w ≡ form_text f → spelling_of w ≡ Some (record { negative = false; form = f })
unsigned_again [] f h e =
    let none : form_after [] [] ≡ Some f = ap (form_after []) e ∙ form_again f h in
    absurd (none-some f none)
unsigned_again (b ∷ bs) f h e =
    let n : (b == 45) ≡ false = no_minus b (λ m. unsigned_start f h (ap (λ xs. get_or xs 0 0) (sym e) ∙ m)) in
    let o : form_after [] (b ∷ bs) ≡ Some f = ap (form_after []) e ∙ form_again f h in
    let Maps : Bool → Option Form → Option Spelling = λ v o. option_map (λ (f : Form). record { negative = v; form = f }) o in
    ap (λ v. if v then Maps true (form_after [] bs) else Maps false (form_after [] (b ∷ bs))) n ∙ ap (Maps false) o

-- each spelling is found
pub spelling_again : (token : List ℕ) (s : Spelling) → Spells token s → spelling_of token ≡ Some s
spelling_again token s h =
    let by : (v : Bool) → token ≡ signed_text v (form_text s.form) → spelling_of token ≡ Some (record { negative = v; form = s.form }) =
    λ v. elim v as (λ v. token ≡ signed_text v (form_text s.form) → spelling_of token ≡ Some (record { negative = v; form = s.form })) [
      | true ↦ λ e. ap spelling_of e ∙ ap (option_map (λ (f : Form). record { negative = true; form = f })) (form_again s.form h.form)
      | false ↦ λ e. unsigned_again token s.form h.form e
    ] in
    by s.negative h.text

-- ---- lowest terms
euclid_is : (n a b : ℕ) → b ≤ n → IsGcd a b (euclid n a b)
euclid_is zero a b h = IsGcd-from_zero a b (omega arith)
euclid_is (suc n) a zero h = IsGcd-from_zero a 0 refl
euclid_is (suc n) a (suc b) h =
    let l : a % suc b ≤ n = omega arith in
    IsGcd-from_mod a (suc b) (euclid n (suc b) (a % suc b)) (euclid_is n (suc b) (a % suc b) l)

pub lowest_is : (num : ℤ) (den : ℕ) → 0 < den → unsigned_abs num < 2 ^ 127 → den < 2 ^ 127 → IsLowest (lowest num den) × Equals (lowest num den) num (pos den)
unfolding lowest
lowest_is num den p x y =
    let g = euclid den (unsigned_abs num) den in
    let h : IsGcd (unsigned_abs num) den g = euclid_is den (unsigned_abs num) den (omega arith) in
    let above : 0 < g = divisor_positive (unsigned_abs num) den g p h in
    let r = reduced_by num (pos den) (pos g) (omega (arith, ints)) x y h (λ k. absurd (omega (arith, ints))) (λ k. omega (arith, ints)) in
    (r.lowest, r.equal)

-- the same value in lowest terms
same_value : (f l : Ratio) (num den : ℤ) → pos 0 <ℤ den → Equals f num den → Equals l num den → Equals f l.num l.den
same_value f l num den p e g =
    let xs = f.num ∷ f.den ∷ l.num ∷ l.den ∷ num ∷ den ∷ [] in
    let first : den *ℤ (f.num *ℤ l.den) ≡ (f.num *ℤ den) *ℤ l.den = ring xs (var 5 ⊗ (var 0 ⊗ var 3)) ((var 0 ⊗ var 5) ⊗ var 3) refl in
    let mid : (num *ℤ f.den) *ℤ l.den ≡ (num *ℤ l.den) *ℤ f.den = ring xs ((var 4 ⊗ var 1) ⊗ var 3) ((var 4 ⊗ var 3) ⊗ var 1) refl in
    let last : (l.num *ℤ den) *ℤ f.den ≡ den *ℤ (l.num *ℤ f.den) = ring xs ((var 2 ⊗ var 5) ⊗ var 1) (var 5 ⊗ (var 2 ⊗ var 1)) refl in
    same_from_times den (f.num *ℤ l.den) (l.num *ℤ f.den) p (first ∙ ap (λ z. z *ℤ l.den) e ∙ mid ∙ ap (λ z. z *ℤ f.den) (sym g) ∙ last)

num_abs : (v : Bool) (n : ℕ) → unsigned_abs (signed_num v n) ≡ n
num_abs true zero = refl
num_abs true (suc n) = refl
num_abs false n = refl

few : (token : List ℕ) (s : Spelling) → Spells token s → digit_count token ≤ 36 → form_digits s.form ≤ 36
few token s h l = omega (arith, count_form s.form h.form, ap digit_count h.text, digit_count_signed s.negative (form_text s.form))

read_same : (token : List ℕ) (s : Spelling) (r : Result Ratio NumberFault) → Spells token s → digit_count token ≤ 36
    → IsOkAnd r (λ f. Equals f (spelled_num s) (spelled_den s) × IsLowest f) → r ≡ Ok (lowest (spelled_num s) (form_den s.form))
read_same token s (Err e) h l k = absurd k
read_same token s (Ok f) h l k =
    let d = few token s h l in
    let n : unsigned_abs (spelled_num s) < 2 ^ 127 = subst (λ n. n < 2 ^ 127) (sym (num_abs s.negative (form_num s.form))) (form_num_small s.form h.form d) in
    let p = form_den_positive s.form h.form in
    let q = lowest_is (spelled_num s) (form_den s.form) p n (form_den_small s.form h.form d) in
    let low = lowest (spelled_num s) (form_den s.form) in
    ap (λ x. Ok x) (lowest_same f low k.1 q.0 (same_value f low (spelled_num s) (spelled_den s) (omega (arith, ints)) k.0 q.1))

pub number_exact : (token : List ℕ) (r : Result Ratio NumberFault)
    → (((s : Spelling) → Spells token s → ⊥) → r ≡ Err NotNumber)
    → ((s : Spelling) → Spells token s → 36 < digit_count token → r ≡ Err (Beyond (digit_count token)))
    → ((s : Spelling) → Spells token s → digit_count token ≤ 36 → IsOkAnd r (λ f. Equals f (spelled_num s) (spelled_den s) × IsLowest f))
    → r ≡ number_of token
unfolding number_of
number_exact token r none many some =
    let by : (o : Option Spelling) → spelling_of token ≡ o → r ≡ number_from token o =
    λ o. elim o as (λ o. spelling_of token ≡ o → r ≡ number_from token o) [
      | None ↦ λ e. none (λ s h. none-some s (sym e ∙ spelling_again token s h))
      | Some s ↦ λ e.
          let h = spelling_is token s e in
          let Low : Result Ratio NumberFault = Ok (lowest (spelled_num s) (form_den s.form)) in
          let Many : Result Ratio NumberFault = Err (Beyond (digit_count token)) in
          let cases : (v : Bool) → nat_lt 36 (digit_count token) ≡ v → r ≡ (if v then Many else Low) =
          λ v. elim v as (λ v. nat_lt 36 (digit_count token) ≡ v → r ≡ (if v then Many else Low)) [
            | true ↦ λ t. many s h (grind (arith, nat_tests))
            | false ↦ λ t. read_same token s r h (grind (arith, nat_tests)) (some s h (grind (arith, nat_tests)))
          ] in
          cases (nat_lt 36 (digit_count token)) refl
    ] in
    by (spelling_of token) refl

-- ---- sizes of what is read
power_short : (n : ℕ) → n ≤ 36 → 10 ^ n ≤ 10 ^ 36
power_short n l = pow-le-pow_right (lit< tt) l

value_short : (ds : List ℕ) → AllDigits 10 ds → length ds ≤ 36 → digits_value 10 ds ≤ 10 ^ 36
value_short ds a l =
    let b : digits_value 10 ds < 10 ^ (0 + length ds) = after_below 0 0 ds (lit< tt) a in
    let p : 10 ^ (0 + length ds) ≤ 10 ^ 36 = power_short (0 + length ds) (omega arith) in
    omega arith

num_short : (f : Form) → IsForm f → form_digits f ≤ 36 → form_num f ≤ 10 ^ 36
num_short (whole ds) h l = value_short ds h.1 l
num_short (decimal ds es) h l = value_short (ds ++ es) (all_append ds es h.0 h.1) (omega (arith, length-append ds es))
num_short (fraction ds es) h l = value_short ds h.0.1 (omega arith)

den_short : (f : Form) → IsForm f → form_digits f ≤ 36 → form_den f ≤ 10 ^ 36
den_short (whole ds) h l = power_short 0 (omega arith)
den_short (decimal ds es) h l = power_short (length es) (omega arith)
den_short (fraction ds es) h l = value_short es h.1 (omega arith)

-- lowest terms, and no part above 10^36
abbrev pub Short : Ratio → Type 0
Short r = IsLowest r × (unsigned_abs r.num ≤ 10 ^ 36) × (unsigned_abs r.den ≤ 10 ^ 36)

lowest_short : (token : List ℕ) (s : Spelling) → Spells token s → digit_count token ≤ 36 → Short (lowest (spelled_num s) (form_den s.form))
unfolding lowest
lowest_short token s h l =
    let d = few token s h l in
    let num = spelled_num s in
    let den = form_den s.form in
    let e : unsigned_abs num ≡ form_num s.form = num_abs s.negative (form_num s.form) in
    let n : unsigned_abs num < 2 ^ 127 = subst (λ n. n < 2 ^ 127) (sym e) (form_num_small s.form h.form d) in
    let m : unsigned_abs num ≤ 10 ^ 36 = subst (λ n. n ≤ 10 ^ 36) (sym e) (num_short s.form h.form d) in
    let k : form_den s.form ≤ 10 ^ 36 = den_short s.form h.form d in
    let g = pos (euclid den (unsigned_abs num) den) in
    let u = no_greater num g in
    let v = no_greater (pos den) g in (
      (lowest_is num den (form_den_positive s.form h.form) n (form_den_small s.form h.form d)).0,
      omega arith,
      omega arith,
    )

no_number : (e : NumberFault) (r : Ratio) → Err e ≡ Ok r → ⊥
no_number e r h = cc

abbrev right : Ratio → Result Ratio NumberFault
right x = Ok x

same_number_read : (x y : Ratio) → right x ≡ Ok y → x ≡ y
same_number_read x y h = cc

-- the number that a token spells is short
pub number_short : (token : List ℕ) (r : Ratio) → number_of token ≡ Ok r → Short r
unfolding number_of
number_short token r h =
    let by : (o : Option Spelling) → spelling_of token ≡ o → number_from token o ≡ Ok r → Short r =
    λ o. elim o as (λ o. spelling_of token ≡ o → number_from token o ≡ Ok r → Short r) [
      | None ↦ λ e g. absurd (no_number NotNumber r g)
      | Some s ↦ λ e g.
          let sp = spelling_is token s e in
          let low = lowest (spelled_num s) (form_den s.form) in
          let many = Beyond (digit_count token) in
          let cases : (v : Bool) → nat_lt 36 (digit_count token) ≡ v → (if v then Err many else Ok low) ≡ Ok r → Short r =
          λ v. elim v as (λ v. nat_lt 36 (digit_count token) ≡ v → (if v then Err many else Ok low) ≡ Ok r → Short r) [
            | true ↦ λ t k. absurd (no_number many r k)
            | false ↦ λ t k. subst Short (same_number_read low r k) (lowest_short token s sp (grind (arith, nat_tests)))
          ] in
          cases (nat_lt 36 (digit_count token)) refl g
    ] in
    by (spelling_of token) refl h
