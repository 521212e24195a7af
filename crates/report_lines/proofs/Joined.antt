-- A word of two texts and a stroke between.
use Rattle.std.proofs.Common.{◌≡◌, ℕ, ◌+◌, ◌<◌, ◌≤◌, ◌++◌, Bool, true, false, List, [], ◌∷◌, zero, suc, length, get_or, take, drop, refl, sym, ap, ◌∙◌, arith}
use Rattle.std.specs.Prelude.{IsTrue, ◌↔◌}
use Rattle.std.specs.Str.{bytes_eq}
use Rattle.std.proofs.lemmas.Bool.{true≢false}
use Rattle.std.proofs.lemmas.Slice.Eq.{bytes_eq-Decides}

pub parts_join : (w : List ℕ) (n : ℕ) → n < length w → get_or w n 0 ≡ 47 → w ≡ take n w ++ 47 ∷ drop (suc n) w
parts_join [] n l e = absurd (omega arith)
parts_join (b ∷ w) zero l e = ap (λ (c : ℕ). c ∷ w) e
parts_join (b ∷ w) (suc n) l e = ap (λ (t : List ℕ). b ∷ t) (parts_join w n (omega arith) e)

front_of : (f s : List ℕ) → take (length f) (f ++ 47 ∷ s) ≡ f
front_of [] s = refl
front_of (b ∷ f) s = ap (λ (t : List ℕ). b ∷ t) (front_of f s)

at_of : (f s : List ℕ) → get_or (f ++ 47 ∷ s) (length f) 0 ≡ 47
at_of [] s = refl
at_of (b ∷ f) s = at_of f s

back_of : (f s : List ℕ) → drop (suc (length f)) (f ++ 47 ∷ s) ≡ s
back_of [] s = refl
back_of (b ∷ f) s = back_of f s

length_of : (f s : List ℕ) → length f < length (f ++ 47 ∷ s)
length_of [] s = omega arith
length_of (b ∷ f) s = let k = length_of f s in omega arith

pub parts_are : (w f s : List ℕ) (n : ℕ) → n ≡ length f → n < length w
    → ((take n w ≡ f) × (get_or w n 0 ≡ 47) × (drop (n + 1) w ≡ s)) → w ≡ f ++ 47 ∷ s
parts_are w f s n e l h =
    let next : suc n ≡ n + 1 = omega arith in
    parts_join w n l h.1 ∙ ap (λ (t : List ℕ). t ++ 47 ∷ drop (suc n) w) h.0 ∙ ap (λ (t : List ℕ). f ++ 47 ∷ t) (ap (λ (m : ℕ). drop m w) next ∙ h.2)

pub are_parts_of : (w f s : List ℕ) (n : ℕ) → n ≡ length f → w ≡ f ++ 47 ∷ s → (take n w ≡ f) × (get_or w n 0 ≡ 47) × (drop (n + 1) w ≡ s)
are_parts_of w f s n e h =
    let next : n + 1 ≡ suc (length f) = omega arith in (
      ap (λ (m : ℕ). take m w) e ∙ ap (take (length f)) h ∙ front_of f s,
      ap (λ (m : ℕ). get_or w m 0) e ∙ ap (λ (t : List ℕ). get_or t (length f) 0) h ∙ at_of f s,
      ap (λ (m : ℕ). drop m w) next ∙ ap (drop (suc (length f))) h ∙ back_of f s,
    )

pub too_short : (w f s : List ℕ) (n : ℕ) → n ≡ length f → length w ≤ n → w ≡ f ++ 47 ∷ s → ⊥
too_short w f s n e l h = let k : length w ≡ length (f ++ 47 ∷ s) = ap length h in omega (arith, length_of f s)

by_test : {P : Type 0} (b : Bool) → (b ≡ true → P) → (P → IsTrue false) → false ≡ b
by_test true f g = absurd (true≢false (sym (g (f refl))))
by_test false f g = refl

-- a test that tells whether two texts are equal is the test of them
pub decided : (r : Bool) (xs ys : List ℕ) → (IsTrue r ↔ (xs ≡ ys)) → r ≡ bytes_eq xs ys
decided true xs ys h = sym ((bytes_eq-Decides xs ys).1 (h.0 refl))
decided false xs ys h = by_test (bytes_eq xs ys) (bytes_eq-Decides xs ys).0 h.1
