-- What proofs of other crates cite: a token has one spelling at most, and a number one form in lowest terms.
use Rattle.std.proofs.Common.{◌≡◌, ◌≢◌, ◌⊎◌, ℕ, ◌<◌, ◌∷◌, [], Bool, true, false, IsTrue, List, get_or, refl, sym, ap, ◌∙◌, arith, inl, inr, ⊎_elim, lit≤}
use Rattle.std.specs.Prelude.{ℤ, pos, ◌*ℤ◌, ◌<ℤ◌}
use Rattle.std.proofs.lemmas.Int.{ints}
use Rattle.exact_algebra.specs.Poly.{var, ◌⊗◌}
use Rattle.exact_algebra.proofs.Normal.{ring}
use Rattle.exact_algebra.proofs.Order.{same_from_times}
use Rattle.pay_frac.specs.Ratio.{Ratio, IsLowest, Equals}
use Rattle.pay_frac.specs.Spelling.{Form, whole, decimal, fraction, form_text, IsForm, Spelling, Spells, form_den, signed_text, spelled_den}
use Rattle.pay_frac.proofs.Forms.{form_of_digits, form_of_seam, form_den_positive}
use Rattle.pay_frac.proofs.Reduce.{lowest_same}
use Rattle.pay_frac.proofs.Spellings.{unsigned_start, same_text}

one_form : (f g : Form) → IsForm f → IsForm g → form_text f ≡ form_text g → f ≡ g
one_form (whole ds) g h k e = sym (form_of_digits ds g h.1 k e)
one_form (decimal ds es) g h k e =
    ⊎_elim
    (λ (q : (46 ≡ 46) × (g ≡ decimal ds es)). sym q.1)
    (λ (q : (46 ≡ 47) × (g ≡ fraction ds es)). absurd (omega (arith, q.0)))
    (form_of_seam ds es 46 g h.0 (lit≤ tt) k e)
one_form (fraction ds es) g h k e =
    ⊎_elim
    (λ (q : (47 ≡ 46) × (g ≡ decimal ds es)). absurd (omega (arith, q.0)))
    (λ (q : (47 ≡ 47) × (g ≡ fraction ds es)). sym q.1)
    (form_of_seam ds es 47 g h.0.1 (lit≤ tt) k e)

plain_start : (b : Bool) (f : Form) → IsForm f → IsTrue b ⊎ (get_or (signed_text b (form_text f)) 0 0 ≢ 45)
plain_start true f h = inl refl
plain_start false f h = inr (unsigned_start f h)

-- a token has at most one spelling
pub one_spelling : (token : List ℕ) (s t : Spelling) → Spells token s → Spells token t → s ≡ t
one_spelling token s t h k =
    let p = same_text s.negative s.form (form_text t.form) t.negative h.form (sym h.text ∙ k.text) (plain_start t.negative t.form k.form) in
    ap (λ b. record { negative = b; form = s.form }) p.0 ∙ ap (λ f. record { negative = t.negative; form = f }) (one_form s.form t.form h.form k.form p.1)

-- what is spelled has a positive denominator
pub spelled_positive : (token : List ℕ) (s : Spelling) → Spells token s → pos 0 <ℤ spelled_den s
spelled_positive token s h = let p : 0 < form_den s.form = form_den_positive s.form h.form in omega (arith, ints)

-- fractions in lowest terms that are the same number are the same
pub same_number : (a b : Ratio) (num den : ℤ) → pos 0 <ℤ den → IsLowest a → Equals a num den → IsLowest b → Equals b num den → a ≡ b
same_number a b num den p low equal low' equal' =
    let left : den *ℤ (a.num *ℤ b.den) ≡ (a.num *ℤ den) *ℤ b.den =
    ring (den ∷ a.num ∷ b.den ∷ []) (var 0 ⊗ (var 1 ⊗ var 2)) ((var 1 ⊗ var 0) ⊗ var 2) refl in
    let middle : (num *ℤ a.den) *ℤ b.den ≡ (num *ℤ b.den) *ℤ a.den =
    ring (num ∷ a.den ∷ b.den ∷ []) ((var 0 ⊗ var 1) ⊗ var 2) ((var 0 ⊗ var 2) ⊗ var 1) refl in
    let right : (b.num *ℤ den) *ℤ a.den ≡ den *ℤ (b.num *ℤ a.den) =
    ring (den ∷ b.num ∷ a.den ∷ []) ((var 1 ⊗ var 0) ⊗ var 2) (var 0 ⊗ (var 1 ⊗ var 2)) refl in
    let cross : a.num *ℤ b.den ≡ b.num *ℤ a.den =
    same_from_times den (a.num *ℤ b.den) (b.num *ℤ a.den) p
    (left ∙ ap (λ z. z *ℤ b.den) equal ∙ middle ∙ ap (λ z. z *ℤ a.den) (sym equal') ∙ right) in
    lowest_same a b low low' cross
