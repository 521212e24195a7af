-- A text has at most one form.
use Rattle.std.proofs.Common.{◌≡◌, ◌≢◌, ◌⊎◌, ℕ, ◌+◌, ◌-◌, ◌<◌, ◌≤◌, ◌^◌, List, [], ◌∷◌, ◌++◌, length, get_or, take, drop, Result, Ok, Err, refl, sym, ap, subst, ◌∙◌, arith, inl, inr, ⊎_elim, lit<, lit≤}
use Rattle.std.proofs.Math.Seq.{take-length}
use Rattle.std.proofs.lemmas.List.{length-append, length-drop, get_or-drop, take-append-drop}
use Rattle.std.proofs.Math.Nat.{one-le-pow, pow-le-pow_right}
use Rattle.std.specs.Char.{digit_value}
use Rattle.std.specs.Str.Parse.{AllDigits, digits_value}
use Rattle.pay_frac.specs.declared.numbers.NumberFault.{NumberFault}
use Rattle.pay_frac.specs.declared.numbers.NumberFault.TheVariants.{NotNumber, Beyond}
use Rattle.pay_frac.specs.Spelling.{Form, whole, decimal, fraction, form_text, IsForm, form_num, form_den, digit_count}
use Rattle.pay_frac.specs.Reading.{FormGives, ReadsAs}
use Rattle.pay_frac.proofs.Digits.{count_digits, count_parts, after_below, value_positive}

-- ---- where the first byte that is no digit stands
pub seam : (ds es fs gs : List ℕ) (c d : ℕ) → AllDigits 10 ds → AllDigits 10 fs → 10 ≤ digit_value c → 10 ≤ digit_value d
    → ds ++ c ∷ es ≡ fs ++ d ∷ gs → (ds ≡ fs) × (c ≡ d) × (es ≡ gs)
seam [] es [] gs c d a b p q e = (refl, cc, cc)
seam [] es (f ∷ fs) gs c d a b p q e = absurd (let h : c ≡ f = cc in let k = ap digit_value h in omega (arith, b.0))
seam (x ∷ ds) es [] gs c d a b p q e = absurd (let h : x ≡ d = cc in let k = ap digit_value h in omega (arith, a.0))
seam (x ∷ ds) es (f ∷ fs) gs c d a b p q e =
    let h : x ≡ f = cc in
    let t : ds ++ c ∷ es ≡ fs ++ d ∷ gs = cc in
    let r = seam ds es fs gs c d a.1 b.1 p q t in
    (cc, r.1, r.2)

-- digits alone have no such byte
pub no_seam : (ds es fs : List ℕ) (c : ℕ) → AllDigits 10 ds → 10 ≤ digit_value c → ds ≡ fs ++ c ∷ es → ⊥
no_seam [] es [] c a p e = cc
no_seam [] es (f ∷ fs) c a p e = cc
no_seam (x ∷ ds) es [] c a p e = let h : x ≡ c = cc in let k = ap digit_value h in omega (arith, a.0)
no_seam (x ∷ ds) es (f ∷ fs) c a p e = let t : ds ≡ fs ++ c ∷ es = cc in no_seam ds es fs c a.1 p t

point_is_no_digit : 10 ≤ digit_value 46
point_is_no_digit = lit≤ tt

stroke_is_no_digit : 10 ≤ digit_value 47
stroke_is_no_digit = lit≤ tt

-- digits alone are a whole number
pub form_of_digits : (ds : List ℕ) (f : Form) → AllDigits 10 ds → IsForm f → ds ≡ form_text f → f ≡ whole ds
form_of_digits ds (whole es) a h e = ap whole (sym e)
form_of_digits ds (decimal es fs) a h e = absurd (no_seam ds fs es 46 a point_is_no_digit e)
form_of_digits ds (fraction es fs) a h e = absurd (no_seam ds fs es 47 a stroke_is_no_digit e)

-- digits, another byte, and what follows it
pub form_of_seam : (ds es : List ℕ) (c : ℕ) (f : Form) → AllDigits 10 ds → 10 ≤ digit_value c → IsForm f → ds ++ c ∷ es ≡ form_text f
    → ((c ≡ 46) × (f ≡ decimal ds es)) ⊎ ((c ≡ 47) × (f ≡ fraction ds es))
form_of_seam ds es c (whole fs) a p h e = absurd (no_seam fs es ds c h.1 p (sym e))
form_of_seam ds es c (decimal fs gs) a p h e =
    let r = seam ds es fs gs c 46 a h.0 p point_is_no_digit e in
    inl (r.1, ap (λ xs. decimal xs gs) (sym r.0) ∙ ap (λ ys. decimal ds ys) (sym r.2))
form_of_seam ds es c (fraction fs gs) a p h e =
    let r = seam ds es fs gs c 47 a h.0.1 p stroke_is_no_digit e in
    inr (r.1, ap (λ xs. fraction xs gs) (sym r.0) ∙ ap (λ ys. fraction ds ys) (sym r.2))

-- ---- how many digits a form has
abbrev pub form_digits : Form → ℕ
form_digits (whole ds) = length ds
form_digits (decimal ds es) = length ds + length es
form_digits (fraction ds es) = length ds + length es

pub count_form : (f : Form) → IsForm f → digit_count (form_text f) ≡ form_digits f
count_form (whole ds) h = count_digits ds h.1
count_form (decimal ds es) h = count_parts ds es 46 h.0 h.1 refl
count_form (fraction ds es) h = count_parts ds es 47 h.0.1 h.1 refl

-- ---- what the readers of forms answer
pub not_form : (f : Form) → (IsForm f → ⊥) → ReadsAs f (Err NotNumber)
not_form f n = record { right = λ h. absurd (n h); otherwise = inr refl }

pub form_beyond : (f : Form) (n : ℕ) → IsForm f → n ≡ digit_count (form_text f) → 36 < n → ReadsAs f (Err (Beyond n))
form_beyond f n h e l = record {
  right = λ _. record { few = λ k. absurd (omega arith); many = λ _. ap (λ m. Err (Beyond m)) e };
  otherwise = inl h;
}

pub form_read : (f : Form) (num den : ℕ) → IsForm f → digit_count (form_text f) ≤ 36 → num ≡ form_num f → den ≡ form_den f → ReadsAs f (Ok (num, den))
form_read f num den h l e d = record {
  right = λ _. record { few = λ _. ap (λ n. Ok (n, den)) e ∙ ap (λ n. Ok (form_num f, n)) d; many = λ k. absurd (omega arith) };
  otherwise = inl h;
}

pub gives_read : (f : Form) (r : Result (ℕ × ℕ) NumberFault) → ReadsAs f r → (g : Form) → IsForm g → g ≡ f → FormGives g r
gives_read f r h g k e = subst (λ x. FormGives x r) (sym e) (h.right (subst IsForm e k))

-- ---- sizes
pub power_small : (n : ℕ) → n ≤ 36 → 10 ^ n < 2 ^ 127
power_small n l =
    let p : 10 ^ n ≤ 10 ^ 36 = pow-le-pow_right (lit< tt) l in
    let q : 10 ^ 36 < 2 ^ 127 = lit< tt in
    omega arith

value_small : (ds : List ℕ) → AllDigits 10 ds → length ds ≤ 36 → digits_value 10 ds < 2 ^ 127
value_small ds a l =
    let b : digits_value 10 ds < 10 ^ (0 + length ds) = after_below 0 0 ds (lit< tt) a in
    let p = power_small (0 + length ds) (omega arith) in
    omega arith

pub all_append : (ds es : List ℕ) → AllDigits 10 ds → AllDigits 10 es → AllDigits 10 (ds ++ es)
all_append [] es a b = b
all_append (d ∷ ds) es a b = (a.0, all_append ds es a.1 b)

pub form_num_small : (f : Form) → IsForm f → form_digits f ≤ 36 → form_num f < 2 ^ 127
form_num_small (whole ds) h l = value_small ds h.1 l
form_num_small (decimal ds es) h l = value_small (ds ++ es) (all_append ds es h.0 h.1) (omega (arith, length-append ds es))
form_num_small (fraction ds es) h l = value_small ds h.0.1 (omega arith)

pub form_den_small : (f : Form) → IsForm f → form_digits f ≤ 36 → form_den f < 2 ^ 127
form_den_small (whole ds) h l = lit< tt
form_den_small (decimal ds es) h l = power_small (length es) (omega arith)
form_den_small (fraction ds es) h l = value_small es h.1 (omega arith)

pub form_den_positive : (f : Form) → IsForm f → 0 < form_den f
form_den_positive (whole ds) h = lit< tt
form_den_positive (decimal ds es) h = one-le-pow (length es) 10 (lit< tt)
form_den_positive (fraction ds es) h = value_positive es h.1 h.2

-- ---- a text, cut after its leading digits
cut : (text front rest : List ℕ) (n : ℕ) → front ≡ take n text → rest ≡ drop n text → text ≡ front ++ rest
cut text front rest n e f = sym (take-append-drop n text) ∙ ap (λ xs. xs ++ drop n text) (sym e) ∙ ap (λ ys. front ++ ys) (sym f)

head_of : (xs : List ℕ) → 0 < length xs → xs ≡ get_or xs 0 0 ∷ take (length xs - 1) (drop 1 xs)
head_of [] l = absurd (omega arith)
head_of (x ∷ xs) l = ap (λ ys. x ∷ ys) (sym (take-length xs) ∙ ap (λ k. take k xs) (omega arith))

-- a text that was cut where its leading digits end
pub record IsCut (text front rest : List ℕ) (n : ℕ) : Type 0 where
  pub bound : n ≤ length text
  pub digits : AllDigits 10 front
  pub ends : n < length text → 10 ≤ digit_value (get_or text n 0)
  pub front_is : front ≡ take n text
  pub rest_is : rest ≡ drop n text

pub make_cut : (text front rest : List ℕ) (n : ℕ) → n ≤ length text → AllDigits 10 (take n text) → (n < length text → 10 ≤ digit_value (get_or text n 0))
    → front ≡ take n text → rest ≡ drop n text → IsCut text front rest n
make_cut text front rest n b d e f r =
    record { bound = b; digits = subst (λ ds. AllDigits 10 ds) (sym f) d; ends = e; front_is = f; rest_is = r }

append-empty : (xs ys : List ℕ) → length ys ≡ 0 → xs ++ ys ≡ xs
append-empty [] [] z = refl
append-empty (x ∷ xs) [] z = ap (λ zs. x ∷ zs) (append-empty xs [] z)
append-empty xs (y ∷ ys) z = absurd (omega arith)

pub cut_all : (text front rest : List ℕ) (n : ℕ) → IsCut text front rest n → length rest ≡ 0 → text ≡ front
cut_all text front rest n c z =
    cut text front rest n c.front_is c.rest_is ∙ append-empty front rest z

pub cut_at : (text front rest : List ℕ) (n : ℕ) → IsCut text front rest n → 0 < length rest
    → (text ≡ front ++ get_or rest 0 0 ∷ take (length rest - 1) (drop 1 rest)) × (10 ≤ digit_value (get_or rest 0 0))
cut_at text front rest n c p =
    let l : n < length text = omega (arith, length-drop n text, ap length c.rest_is) in
    let e : get_or rest 0 0 ≡ get_or text n 0 = ap (λ xs. get_or xs 0 0) c.rest_is ∙ get_or-drop n text 0 0 ∙ ap (λ k. get_or text k 0) (omega arith) in
    (cut text front rest n c.front_is c.rest_is ∙ ap (λ ys. front ++ ys) (head_of rest p), subst (λ k. 10 ≤ digit_value k) (sym e) (c.ends l))

-- ---- the three forms of a text that was cut
abbrev pub Spelled : List ℕ → Result (ℕ × ℕ) NumberFault → Type 0
Spelled text r = ((f : Form) × IsForm f × (text ≡ form_text f)) ⊎ (r ≡ Err NotNumber)

spelled_as : (text : List ℕ) (f : Form) (r : Result (ℕ × ℕ) NumberFault) → text ≡ form_text f → ReadsAs f r → Spelled text r
spelled_as text f r e h = ⊎_elim (λ k. inl (f, k, e)) (λ n. inr n) h.otherwise

pub given_whole : (text front rest : List ℕ) (n : ℕ) (r : Result (ℕ × ℕ) NumberFault) → IsCut text front rest n → length rest ≡ 0 → ReadsAs (whole front) r
    → (f : Form) → IsForm f → text ≡ form_text f → FormGives f r
given_whole text front rest n r c z h f k e =
    gives_read (whole front) r h f k (form_of_digits front f c.digits k (sym (cut_all text front rest n c z) ∙ e))

pub spelled_whole : (text front rest : List ℕ) (n : ℕ) (r : Result (ℕ × ℕ) NumberFault) → IsCut text front rest n → length rest ≡ 0 → ReadsAs (whole front) r → Spelled text r
spelled_whole text front rest n r c z h = spelled_as text (whole front) r (cut_all text front rest n c z) h

abbrev pub rest_back : List ℕ → List ℕ
rest_back rest = take (length rest - 1) (drop 1 rest)

pub given_decimal : (text front rest : List ℕ) (n : ℕ) (r : Result (ℕ × ℕ) NumberFault) → IsCut text front rest n → 0 < length rest → get_or rest 0 0 ≡ 46
    → ReadsAs (decimal front (rest_back rest)) r → (f : Form) → IsForm f → text ≡ form_text f → FormGives f r
given_decimal text front rest n r c p b h f k e =
    let t = cut_at text front rest n c p in
    ⊎_elim (λ (q : (get_or rest 0 0 ≡ 46) × (f ≡ decimal front (rest_back rest))). gives_read (decimal front (rest_back rest)) r h f k q.1)
    (λ (q : (get_or rest 0 0 ≡ 47) × (f ≡ fraction front (rest_back rest))). absurd (omega (arith, q.0)))
    (form_of_seam front (rest_back rest) (get_or rest 0 0) f c.digits t.1 k (sym t.0 ∙ e))

pub given_fraction : (text front rest : List ℕ) (n : ℕ) (r : Result (ℕ × ℕ) NumberFault) → IsCut text front rest n → 0 < length rest → get_or rest 0 0 ≡ 47
    → ReadsAs (fraction front (rest_back rest)) r → (f : Form) → IsForm f → text ≡ form_text f → FormGives f r
given_fraction text front rest n r c p b h f k e =
    let t = cut_at text front rest n c p in
    ⊎_elim (λ (q : (get_or rest 0 0 ≡ 46) × (f ≡ decimal front (rest_back rest))). absurd (omega (arith, q.0)))
    (λ (q : (get_or rest 0 0 ≡ 47) × (f ≡ fraction front (rest_back rest))). gives_read (fraction front (rest_back rest)) r h f k q.1)
    (form_of_seam front (rest_back rest) (get_or rest 0 0) f c.digits t.1 k (sym t.0 ∙ e))

pub given_none : (text front rest : List ℕ) (n : ℕ) → IsCut text front rest n → 0 < length rest → get_or rest 0 0 ≢ 46 → get_or rest 0 0 ≢ 47
    → (f : Form) → IsForm f → text ≡ form_text f → ⊥
given_none text front rest n c p a b f k e =
    let t = cut_at text front rest n c p in
    ⊎_elim (λ (q : (get_or rest 0 0 ≡ 46) × (f ≡ decimal front (rest_back rest))). a q.0)
    (λ (q : (get_or rest 0 0 ≡ 47) × (f ≡ fraction front (rest_back rest))). b q.0)
    (form_of_seam front (rest_back rest) (get_or rest 0 0) f c.digits t.1 k (sym t.0 ∙ e))

pub spelled_decimal : (text front rest : List ℕ) (n : ℕ) (r : Result (ℕ × ℕ) NumberFault) → IsCut text front rest n → 0 < length rest → get_or rest 0 0 ≡ 46
    → ReadsAs (decimal front (rest_back rest)) r → Spelled text r
spelled_decimal text front rest n r c p b h =
    spelled_as text (decimal front (rest_back rest)) r ((cut_at text front rest n c p).0 ∙ ap (λ k. front ++ k ∷ rest_back rest) b) h

pub spelled_fraction : (text front rest : List ℕ) (n : ℕ) (r : Result (ℕ × ℕ) NumberFault) → IsCut text front rest n → 0 < length rest → get_or rest 0 0 ≡ 47
    → ReadsAs (fraction front (rest_back rest)) r → Spelled text r
spelled_fraction text front rest n r c p b h =
    spelled_as text (fraction front (rest_back rest)) r ((cut_at text front rest n c p).0 ∙ ap (λ k. front ++ k ∷ rest_back rest) b) h
