-- What a token is as a number is what it spells.
use Rattle.std.proofs.Common.{◌≡◌, ◌≢◌, ℕ, zero, suc, ◌+◌, ◌<◌, ◌==◌, ◌&&◌, Bool, true, false, not, if◌then◌else◌, List, [], ◌∷◌, ◌++◌, length, get_or, Option, Some, None, refl, sym, ap, subst, ◌∙◌, arith, append_assoc}
use Rattle.std.specs.Prelude.{Any, nat_lt}
use Rattle.std.specs.Char.{digit_value, is_ascii_digit}
use Rattle.std.specs.Str.Parse.{AllDigits}
use Rattle.std.proofs.lemmas.Bool.{true≢false}
use Rattle.std.proofs.lemmas.Bool.Decides.{nat_tests}
use Rattle.std.proofs.lemmas.Option.{same_Some, none-some}
use Rattle.std.proofs.lemmas.List.{append-nil}
use Rattle.pay_frac.specs.Spelling.{Form, whole, decimal, fraction, form_text, IsForm}
use Rattle.pay_frac.proofs.Digits.{no_other}
use Rattle.pay_frac.specs.Number.{all_digits, all_zeros, form_after}

pub digit_true : (c : ℕ) → is_ascii_digit c ≡ true → digit_value c < 10
digit_true c h = grind (arith, nat_tests)

pub true_digit : (c : ℕ) → digit_value c < 10 → is_ascii_digit c ≡ true
true_digit c h = grind (arith, nat_tests)

and_is : (a b : Bool) → (a && b) ≡ true → (a ≡ true) × (b ≡ true)
and_is true b e = (refl, e)
and_is false b e = absurd (true≢false (sym e))

and_again : (a b : Bool) → a ≡ true → b ≡ true → (a && b) ≡ true
and_again a b p q = ap (λ x. x && b) p ∙ q

pub digits_true : (ds : List ℕ) → all_digits ds ≡ true → AllDigits 10 ds
digits_true [] h = tt
digits_true (d ∷ ds) h = let p = and_is (is_ascii_digit d) (all_digits ds) h in (digit_true d p.0, digits_true ds p.1)

pub true_digits : (ds : List ℕ) → AllDigits 10 ds → all_digits ds ≡ true
true_digits [] h = refl
true_digits (d ∷ ds) h = and_again (is_ascii_digit d) (all_digits ds) (true_digit d h.0) (true_digits ds h.1)

is_zero : (d : ℕ) → (d == 48) ≡ true → d ≡ 48
is_zero d h = grind (arith, nat_tests)

is_no_zero : (d : ℕ) → (d == 48) ≡ false → d ≢ 48
is_no_zero d h = grind (arith, nat_tests)

zero_is : (d : ℕ) → d ≡ 48 → (d == 48) ≡ true
zero_is d h = grind (arith, nat_tests)

any_later : (d : ℕ) (ds : List ℕ) → Any (λ c. c ≢ 48) ds → Any (λ c. c ≢ 48) (d ∷ ds)
any_later d ds h = (suc h.0, h.1, omega (arith, h.2), h.3, h.4)

pub some_other : (ds : List ℕ) → all_zeros ds ≡ false → Any (λ c. c ≢ 48) ds
some_other [] h = absurd (true≢false h)
some_other (d ∷ ds) h =
    let by : (b : Bool) → (d == 48) ≡ b → (b && all_zeros ds) ≡ false → Any (λ c. c ≢ 48) (d ∷ ds) =
    λ b. elim b as (λ b. (d == 48) ≡ b → (b && all_zeros ds) ≡ false → Any (λ c. c ≢ 48) (d ∷ ds)) [
      | true ↦ λ e f. any_later d ds (some_other ds f)
      | false ↦ λ e f. (0, d, omega arith, refl, is_no_zero d e)
    ] in
    by (d == 48) refl h

zeros_none : (ds : List ℕ) → all_zeros ds ≡ true → (i : ℕ) → i < length ds → get_or ds i 0 ≡ 48
zeros_none [] h i l = absurd (omega arith)
zeros_none (d ∷ ds) h zero l = is_zero d (and_is (d == 48) (all_zeros ds) h).0
zeros_none (d ∷ ds) h (suc i) l = zeros_none ds (and_is (d == 48) (all_zeros ds) h).1 i (omega arith)

pub other_some : (ds : List ℕ) → Any (λ c. c ≢ 48) ds → all_zeros ds ≡ false
other_some ds h =
    let by : (b : Bool) → all_zeros ds ≡ b → all_zeros ds ≡ false =
    λ b. elim b as (λ b. all_zeros ds ≡ b → all_zeros ds ≡ false) [
      | true ↦ λ e. absurd (no_other ds (zeros_none ds e) h)
      | false ↦ λ e. e
    ] in
    by (all_zeros ds) refl

digits_push : (ds : List ℕ) (c : ℕ) → AllDigits 10 ds → digit_value c < 10 → AllDigits 10 (ds ++ c ∷ [])
digits_push [] c h k = (k, tt)
digits_push (d ∷ ds) c h k = (h.0, digits_push ds c h.1 k)

-- ---- what is found is a form
abbrev pub Found : List ℕ → Form → Type 0
Found w f = IsForm f × (w ≡ form_text f)

chosen : {A : Type 0} (b : Bool) (x : A) (y : A) → (if b then Some x else None) ≡ Some y → (b ≡ true) × (x ≡ y)
chosen true x y e = (refl, same_Some x y e)
chosen false x y e = absurd (none-some y e)

positive_is : (n : ℕ) → nat_lt 0 n ≡ true → 0 < n
positive_is n h = grind (arith, nat_tests)

positive_again : (n : ℕ) → 0 < n → nat_lt 0 n ≡ true
positive_again n h = grind (arith, nat_tests)

not_true : (b : Bool) → not b ≡ true → b ≡ false
not_true true e = absurd (true≢false (sym e))
not_true false e = refl

not_again : (b : Bool) → b ≡ false → not b ≡ true
not_again b e = ap not e

point_is : (b : ℕ) → (b == 46) ≡ true → b ≡ 46
point_is b h = grind (arith, nat_tests)

stroke_is : (b : ℕ) → (b == 47) ≡ true → b ≡ 47
stroke_is b h = grind (arith, nat_tests)

found_decimal : (ds bs : List ℕ) (b : ℕ) (f : Form) → AllDigits 10 ds → b ≡ 46
    → (if all_digits bs && nat_lt 0 (length ds + length bs) then Some (decimal ds bs) else None) ≡ Some f → Found (ds ++ b ∷ bs) f
found_decimal ds bs b f h e k =
    let p = chosen (all_digits bs && nat_lt 0 (length ds + length bs)) (decimal ds bs) f k in
    let q = and_is (all_digits bs) (nat_lt 0 (length ds + length bs)) p.0 in
    subst (Found (ds ++ b ∷ bs)) p.1 ((h, digits_true bs q.0, positive_is (length ds + length bs) q.1), ap (λ c. ds ++ c ∷ bs) e)

found_fraction : (ds bs : List ℕ) (b : ℕ) (f : Form) → AllDigits 10 ds → b ≡ 47
    → (if nat_lt 0 (length ds) && all_digits bs && not (all_zeros bs) then Some (fraction ds bs) else None) ≡ Some f → Found (ds ++ b ∷ bs) f
found_fraction ds bs b f h e k =
    let p = chosen (nat_lt 0 (length ds) && all_digits bs && not (all_zeros bs)) (fraction ds bs) f k in
    let q = and_is (nat_lt 0 (length ds) && all_digits bs) (not (all_zeros bs)) p.0 in
    let r = and_is (nat_lt 0 (length ds)) (all_digits bs) q.0 in
    subst (Found (ds ++ b ∷ bs)) p.1
    (((positive_is (length ds) r.0, h), digits_true bs r.1, some_other bs (not_true (all_zeros bs) q.1)), ap (λ c. ds ++ c ∷ bs) e)

-- digits, a byte that is no digit, and the bytes after it
abbrev behind : List ℕ → List ℕ → ℕ → Option Form
behind ds bs b =
    if b == 46 then (if all_digits bs && nat_lt 0 (length ds + length bs) then Some (decimal ds bs) else None)
    else if b == 47 then (if nat_lt 0 (length ds) && all_digits bs && not (all_zeros bs) then Some (fraction ds bs) else None)
    else None

found_behind : (ds bs : List ℕ) (b : ℕ) (f : Form) → AllDigits 10 ds → behind ds bs b ≡ Some f → Found (ds ++ b ∷ bs) f
found_behind ds bs b f h e =
    let P : Option Form = if all_digits bs && nat_lt 0 (length ds + length bs) then Some (decimal ds bs) else None in
    let Q : Option Form = if nat_lt 0 (length ds) && all_digits bs && not (all_zeros bs) then Some (fraction ds bs) else None in
    let stroke : (v : Bool) → (b == 47) ≡ v → (if v then Q else None) ≡ Some f → Found (ds ++ b ∷ bs) f =
    λ v. elim v as (λ v. (b == 47) ≡ v → (if v then Q else None) ≡ Some f → Found (ds ++ b ∷ bs) f) [
      | true ↦ λ t k. found_fraction ds bs b f h (stroke_is b t) k
      | false ↦ λ t k. absurd (none-some f k)
    ] in
    let point : (v : Bool) → (b == 46) ≡ v → (if v then P else (if b == 47 then Q else None)) ≡ Some f → Found (ds ++ b ∷ bs) f =
    λ v. elim v as (λ v. (b == 46) ≡ v → (if v then P else (if b == 47 then Q else None)) ≡ Some f → Found (ds ++ b ∷ bs) f) [
      | true ↦ λ t k. found_decimal ds bs b f h (point_is b t) k
      | false ↦ λ t k. stroke (b == 47) refl k
    ] in
    point (b == 46) refl e

pub found : (ds w : List ℕ) (f : Form) → AllDigits 10 ds → form_after ds w ≡ Some f → Found (ds ++ w) f
found ds [] f h e =
    let p = chosen (nat_lt 0 (length ds)) (whole ds) f e in
    subst (Found (ds ++ [])) p.1 ((positive_is (length ds) p.0, h), append-nil ds)
found ds (b ∷ bs) f h e =
    let by : (v : Bool) → is_ascii_digit b ≡ v → (if v then form_after (ds ++ b ∷ []) bs else behind ds bs b) ≡ Some f → Found (ds ++ b ∷ bs) f =
    λ v. elim v as (λ v. is_ascii_digit b ≡ v → (if v then form_after (ds ++ b ∷ []) bs else behind ds bs b) ≡ Some f → Found (ds ++ b ∷ bs) f) [
      | true ↦ λ t k.
          subst (λ xs. Found xs f) (append_assoc ds (b ∷ []) bs) (found (ds ++ b ∷ []) bs f (digits_push ds b h (digit_true b t)) k)
      | false ↦ λ t k. found_behind ds bs b f h k
    ] in
    by (is_ascii_digit b) refl e

-- ---- each form is found
over_digits : (ds es rest : List ℕ) → AllDigits 10 es → form_after ds (es ++ rest) ≡ form_after (ds ++ es) rest
over_digits ds [] rest h = ap (λ xs. form_after xs rest) (sym (append-nil ds))
over_digits ds (e ∷ es) rest h =
    ap (λ v. if v then form_after (ds ++ e ∷ []) (es ++ rest) else behind ds (es ++ rest) e) (true_digit e h.0)
    ∙ over_digits (ds ++ e ∷ []) es rest h.1
    ∙ ap (λ xs. form_after xs rest) (append_assoc ds (e ∷ []) es)

pub form_again : (f : Form) → IsForm f → form_after [] (form_text f) ≡ Some f
form_again (whole ds) h =
    ap (form_after []) (sym (append-nil ds)) ∙ over_digits [] ds [] h.1 ∙ rw (positive_again (length ds) h.0) refl
form_again (decimal ds es) h =
    let t : (all_digits es && nat_lt 0 (length ds + length es)) ≡ true = and_again (all_digits es) (nat_lt 0 (length ds + length es)) (true_digits es h.1) (positive_again (length ds + length es) h.2) in
    over_digits [] ds (46 ∷ es) h.0 ∙ ap (λ v. if v then Some (decimal ds es) else None) t
form_again (fraction ds es) h =
    let t : (nat_lt 0 (length ds) && all_digits es && not (all_zeros es)) ≡ true =
    and_again (nat_lt 0 (length ds) && all_digits es) (not (all_zeros es)) (and_again (nat_lt 0 (length ds)) (all_digits es) (positive_again (length ds) h.0.0) (true_digits es h.1)) (not_again (all_zeros es) (other_some es h.2)) in
    over_digits [] ds (47 ∷ es) h.0.1 ∙ ap (λ v. if v then Some (fraction ds es) else None) t
