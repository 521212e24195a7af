-- Lists of the values of a function.
use Rattle.std.proofs.Common.{◌≡◌, ℕ, zero, suc, ◌+◌, ◌<◌, ◌≤◌, ◌++◌, List, [], ◌∷◌, length, get_or, refl, sym, ap, ◌∙◌, arith, ⊎_elim, append_assoc}
use Rattle.std.proofs.lemmas.Bool.{cases_lt}
use Rattle.std.proofs.lemmas.List.{get_or_append_left, get_or_push, length-append}
use Rattle.case_maker.specs.Generated.{listed}

pub listed_none : {A : Type 0} (f : ℕ → A) → listed f 0 ≡ []
unfolding listed
listed_none f = refl

listed_suc : {A : Type 0} (f : ℕ → A) (n : ℕ) → listed f (suc n) ≡ listed f n ++ f n ∷ []
unfolding listed
listed_suc f n = refl

pub listed_more : {A : Type 0} (f : ℕ → A) (n : ℕ) → listed f (n + 1) ≡ listed f n ++ f n ∷ []
listed_more f n = let e : n + 1 ≡ suc n = omega arith in ap (listed f) e ∙ listed_suc f n

pub listed_two_more : {A : Type 0} (f : ℕ → A) (n : ℕ) → listed f (n + 1 + 1) ≡ listed f n ++ f n ∷ f (n + 1) ∷ []
listed_two_more f n = listed_more f (n + 1) ∙ ap (λ xs. xs ++ f (n + 1) ∷ []) (listed_more f n) ∙ append_assoc (listed f n) (f n ∷ []) (f (n + 1) ∷ [])

pub length-listed : {A : Type 0} (f : ℕ → A) (n : ℕ) → length (listed f n) ≡ n
length-listed f zero = ap length (listed_none f)
length-listed f (suc n) = ap length (listed_suc f n) ∙ omega (arith, length-append (listed f n) (f n ∷ []), length-listed f n)

pub get_or-listed : {A : Type 0} (f : ℕ → A) (n k : ℕ) (d : A) → k < n → get_or (listed f n) k d ≡ f k
get_or-listed f zero k d h = absurd (omega arith)
get_or-listed {A} f (suc n) k d h =
    ap (λ (xs : List A). get_or xs k d) (listed_suc f n)
    ∙ ⊎_elim
    (λ (l : k < n). get_or_append_left (listed f n) (f n ∷ []) d k (omega (arith, length-listed f n)) ∙ get_or-listed f n k d l)
    (λ (m : n ≤ k).
    let e : k ≡ n = omega arith in
    get_or_push (listed f n) (f n) d k (length-listed f n ∙ sym e) ∙ ap f (sym e))
    (cases_lt k n)

pub listed_same : {A : Type 0} (f g : ℕ → A) (n : ℕ) → ((k : ℕ) → k < n → f k ≡ g k) → listed f n ≡ listed g n
listed_same f g zero h = listed_none f ∙ sym (listed_none g)
listed_same {A} f g (suc n) h =
    let l : n < suc n = omega arith in
    listed_suc f n
    ∙ ap (λ (xs : List A). xs ++ f n ∷ []) (listed_same f g n (λ k m. h k (omega arith)))
    ∙ ap (λ x. listed g n ++ x ∷ []) (h n l)
    ∙ sym (listed_suc g n)
