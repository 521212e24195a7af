-- A token has at most one spelling, and what the reader answers for it.
use Rattle.std.proofs.Common.{◌≡◌, ◌≢◌, ◌⊎◌, ℕ, ◌<◌, ◌≤◌, ◌^◌, Bool, true, false, IsTrue, List, [], ◌∷◌, ◌++◌, get_or, Result, Ok, Err, refl, sym, ap, subst, ◌∙◌, arith, inl, inr, ⊎_elim}
use Rattle.std.specs.Prelude.{pos}
use Rattle.std.specs.Char.{digit_value}
use Rattle.std.specs.Str.Parse.{IsNumeral}
use Rattle.std.proofs.lemmas.Bool.{cases_lt, true≢false}
use Rattle.pay_frac.specs.declared.numbers.NumberFault.{NumberFault}
use Rattle.pay_frac.specs.declared.numbers.NumberFault.TheVariants.{NotNumber, Beyond}
use Rattle.pay_frac.specs.Spelling.{Form, whole, decimal, fraction, form_text, IsForm, form_num, form_den, digit_count, Spelling, Spells, signed_text, signed_num, spelled_num, spelled_den}
use Rattle.pay_frac.specs.Reading.{FormGives}
use Rattle.pay_frac.proofs.Forms.{Spelled, count_form, form_digits, form_num_small, form_den_small, form_den_positive}

-- no number begins with '-' where it has no sign
starts_with_digit : (ds rest : List ℕ) → IsNumeral 10 ds → get_or (ds ++ rest) 0 0 ≡ 45 → ⊥
starts_with_digit [] rest h e = absurd (let l = h.0 in omega arith)
starts_with_digit (d ∷ ds) rest h e = let k = ap digit_value e in omega (arith, h.1.0)

pub unsigned_start : (f : Form) → IsForm f → get_or (form_text f) 0 0 ≡ 45 → ⊥
unsigned_start (whole []) h e = absurd (let l = h.0 in omega arith)
unsigned_start (whole (d ∷ ds)) h e = let k = ap digit_value e in omega (arith, h.1.0)
unsigned_start (decimal [] es) h e = absurd (omega arith)
unsigned_start (decimal (d ∷ ds) es) h e = let k = ap digit_value e in omega (arith, h.0.0)
unsigned_start (fraction ds es) h e = starts_with_digit ds (47 ∷ es) h.0 e

-- how a token was cut at its sign
pub record IsSigned (token text : List ℕ) (negative : Bool) : Type 0 where
  pub text_is : token ≡ signed_text negative text
  pub plain : IsTrue negative ⊎ (get_or token 0 0 ≢ 45)

pub same_text : (a : Bool) (f : Form) (text : List ℕ) (b : Bool) → IsForm f → signed_text a (form_text f) ≡ signed_text b text
    → (IsTrue b ⊎ (get_or (signed_text b text) 0 0 ≢ 45)) → (a ≡ b) × (form_text f ≡ text)
same_text true f text true h e p = (refl, cc)
same_text true f text false h e p =
    absurd (⊎_elim (λ (t : false ≡ true). true≢false (sym t)) (λ (n : get_or text 0 0 ≢ 45). n (sym (ap (λ xs. get_or xs 0 0) e))) p)
same_text false f text true h e p = absurd (unsigned_start f h (ap (λ xs. get_or xs 0 0) e))
same_text false f text false h e p = (refl, e)

pub spelling_parts : (token text : List ℕ) (negative : Bool) (s : Spelling) → IsSigned token text negative → Spells token s
    → (s.negative ≡ negative) × (form_text s.form ≡ text)
spelling_parts token text negative s c h =
    same_text s.negative s.form text negative h.form (sym h.text ∙ c.text_is) (subst (λ xs. IsTrue negative ⊎ (get_or xs 0 0 ≢ 45)) c.text_is c.plain)

pub digit_count_signed : (negative : Bool) (text : List ℕ) → digit_count (signed_text negative text) ≡ digit_count text
digit_count_signed true text = refl
digit_count_signed false text = refl

-- ---- what the reader of a token knows of the text without the sign
abbrev pub Given : List ℕ → Result (ℕ × ℕ) NumberFault → Type 0
Given text r = (f : Form) → IsForm f → text ≡ form_text f → FormGives f r

abbrev pair_of : Result (ℕ × ℕ) NumberFault → ℕ × ℕ
pair_of (Ok p) = p
pair_of (Err e) = (0, 0)

-- a number that was read is that of a form with few digits
pub record IsRead (text : List ℕ) (num den : ℕ) : Type 0 where
  pub form : Form
  pub right : IsForm form
  pub text_is : text ≡ form_text form
  pub few : digit_count text ≤ 36
  pub num_is : num ≡ form_num form
  pub den_is : den ≡ form_den form

read_form : (text : List ℕ) (num den : ℕ) (r : Result (ℕ × ℕ) NumberFault) (f : Form) → IsForm f → text ≡ form_text f → FormGives f r → r ≡ Ok (num, den) → IsRead text num den
read_form text num den r f h t k e =
    ⊎_elim
    (λ (l : 36 < digit_count (form_text f)). absurd (let x = sym e ∙ k.many l in cc))
    (λ (l : digit_count (form_text f) ≤ 36).
    let x = sym e ∙ k.few l in
    record { form = f; right = h; text_is = t; few = subst (λ xs. digit_count xs ≤ 36) (sym t) l; num_is = ap (λ q. (pair_of q).0) x; den_is = ap (λ q. (pair_of q).1) x })
    (cases_lt 36 (digit_count (form_text f)))

pub read_ok : (text : List ℕ) (num den : ℕ) (r : Result (ℕ × ℕ) NumberFault) → Given text r → Spelled text r → r ≡ Ok (num, den) → IsRead text num den
read_ok text num den r g s e =
    ⊎_elim
    (λ (f : (f : Form) × IsForm f × (text ≡ form_text f)). read_form text num den r f.0 f.1 f.2 (g f.0 f.1 f.2) e)
    (λ (n : r ≡ Err NotNumber). absurd (let h : Ok (num, den) ≡ Err NotNumber = sym e ∙ n in cc))
    s

-- the answers for a token
pub no_spelling : (token text : List ℕ) (negative : Bool) (r : Result (ℕ × ℕ) NumberFault) → IsSigned token text negative → Given text r → r ≡ Err NotNumber
    → (s : Spelling) → Spells token s → ⊥
no_spelling token text negative r c g e s h =
    let p = spelling_parts token text negative s c h in
    let k = g s.form h.form (sym p.1) in
    ⊎_elim
    (λ (l : 36 < digit_count (form_text s.form)). let x = sym e ∙ k.many l in cc)
    (λ (l : digit_count (form_text s.form) ≤ 36). let x = sym e ∙ k.few l in cc)
    (cases_lt 36 (digit_count (form_text s.form)))

-- ---- a number that was read
few_digits : (text : List ℕ) (num den : ℕ) → (h : IsRead text num den) → form_digits h.form ≤ 36
few_digits text num den h = omega (arith, count_form h.form h.right, h.few, ap digit_count h.text_is)

pub num_small : (text : List ℕ) (num den : ℕ) → IsRead text num den → num < 2 ^ 127
num_small text num den h = subst (λ n. n < 2 ^ 127) (sym h.num_is) (form_num_small h.form h.right (few_digits text num den h))

pub den_small : (text : List ℕ) (num den : ℕ) → IsRead text num den → den < 2 ^ 127
den_small text num den h = subst (λ n. n < 2 ^ 127) (sym h.den_is) (form_den_small h.form h.right (few_digits text num den h))

pub den_positive : (text : List ℕ) (num den : ℕ) → IsRead text num den → 0 < den
den_positive text num den h = subst (λ n. 0 < n) (sym h.den_is) (form_den_positive h.form h.right)

pub spells : (token text : List ℕ) (negative : Bool) (f : Form) → IsSigned token text negative → IsForm f → text ≡ form_text f
    → Spells token (record { negative = negative; form = f })
spells token text negative f c h e = record { text = c.text_is ∙ ap (signed_text negative) e; form = h }

-- each spelling of the token has the parts that were read
pub parts_read : (token text : List ℕ) (negative : Bool) (num den : ℕ) (r : Result (ℕ × ℕ) NumberFault) (s : Spelling) → IsSigned token text negative → Given text r → r ≡ Ok (num, den)
    → Spells token s → digit_count token ≤ 36 → (signed_num negative num ≡ spelled_num s) × (pos den ≡ spelled_den s)
parts_read token text negative num den r s c g e h l =
    let p = spelling_parts token text negative s c h in
    let few : digit_count (form_text s.form) ≤ 36 = omega (arith, ap digit_count p.1, ap digit_count c.text_is, digit_count_signed negative text) in
    let x = sym e ∙ (g s.form h.form (sym p.1)).few few in
    let n : num ≡ form_num s.form = ap (λ q. (pair_of q).0) x in
    let d : den ≡ form_den s.form = ap (λ q. (pair_of q).1) x in
    (ap (λ m. signed_num negative m) n ∙ ap (λ b. signed_num b (form_num s.form)) (sym p.0), ap pos d)

-- no spelling has more digits where a number was read
pub not_beyond : (token text : List ℕ) (negative : Bool) (num den : ℕ) (s : Spelling) → IsSigned token text negative → IsRead text num den → 36 < digit_count token → ⊥
not_beyond token text negative num den s c h l = omega (arith, h.few, ap digit_count c.text_is, digit_count_signed negative text)

-- ---- a fault
pub fault_not_number : (token text : List ℕ) (negative : Bool) (r : Result (ℕ × ℕ) NumberFault) (e : NumberFault) → IsSigned token text negative → Spelled text r → r ≡ Err e
    → ((s : Spelling) → Spells token s → ⊥) → e ≡ NotNumber
fault_not_number token text negative r e c s x n =
    ⊎_elim
    (λ (f : (f : Form) × IsForm f × (text ≡ form_text f)). absurd (n (record { negative = negative; form = f.0 }) (spells token text negative f.0 c f.1 f.2)))
    (λ (k : r ≡ Err NotNumber). let y = sym x ∙ k in cc)
    s

pub fault_beyond : (token text : List ℕ) (negative : Bool) (r : Result (ℕ × ℕ) NumberFault) (e : NumberFault) (s : Spelling) → IsSigned token text negative → Given text r → r ≡ Err e
    → Spells token s → 36 < digit_count token → e ≡ Beyond (digit_count token)
fault_beyond token text negative r e s c g x h l =
    let p = spelling_parts token text negative s c h in
    let same : digit_count (form_text s.form) ≡ digit_count token = ap digit_count p.1 ∙ sym (digit_count_signed negative text) ∙ ap digit_count (sym c.text_is) in
    let y = sym x ∙ (g s.form h.form (sym p.1)).many (omega arith) in
    let z : e ≡ Beyond (digit_count (form_text s.form)) = cc in
    z ∙ ap Beyond same

pub fault_no_value : (token text : List ℕ) (negative : Bool) (r : Result (ℕ × ℕ) NumberFault) (e : NumberFault) (s : Spelling) → IsSigned token text negative → Given text r → r ≡ Err e
    → Spells token s → digit_count token ≤ 36 → ⊥
fault_no_value token text negative r e s c g x h l =
    let p = spelling_parts token text negative s c h in
    let few : digit_count (form_text s.form) ≤ 36 = omega (arith, ap digit_count p.1, ap digit_count c.text_is, digit_count_signed negative text) in
    let y = sym x ∙ (g s.form h.form (sym p.1)).few few in
    cc

pub spelled_token : (token text : List ℕ) (negative : Bool) (r : Result (ℕ × ℕ) NumberFault) (e : NumberFault) → IsSigned token text negative → Spelled text r → r ≡ Err e
    → ((s : Spelling) × Spells token s) ⊎ (e ≡ NotNumber)
spelled_token token text negative r e c s x =
    ⊎_elim
    (λ (f : (f : Form) × IsForm f × (text ≡ form_text f)). inl (record { negative = negative; form = f.0 }, spells token text negative f.0 c f.1 f.2))
    (λ (k : r ≡ Err NotNumber). inr (let y = sym x ∙ k in cc))
    s
