-- Fractions of the same value, and lists of fractions that are formed.
use Rattle.std.proofs.Common.{◌≡◌, ℕ, ◌++◌, List, [], ◌∷◌, Result, Ok, Err, inl, inr, refl, ap, sym, subst, ◌∙◌}
use Rattle.std.specs.Prelude.{pos, ◌+ℤ◌, ◌*ℤ◌, ◌<ℤ◌, ◌↔◌, IsOk, IfOk, IfErr}
use Rattle.std.proofs.lemmas.Bool.{true≢false}
use Rattle.exact_algebra.specs.Poly.{var, ◌⊕◌, ◌⊗◌}
use Rattle.exact_algebra.proofs.Normal.{ring}
use Rattle.exact_algebra.proofs.Order.{same_from_times}
use Rattle.pay_frac.specs.Ratio.{Ratio, IsLowest, IsSmall, Equals}
use Rattle.pay_frac.proofs.Laws.{same_number}
use Rattle.deviation_laws.specs.declared.gains.GainBeyond.{GainBeyond}
use Rattle.deviation_laws.specs.Fractions.{Fraction, plus, product}
use Rattle.deviation_laws.specs.Gains.{IsSmallValue, AreSmall, IsFirstBeyond, Answers}
use Rattle.deviation_laws.specs.Lists.{held}

abbrev pub Same : Fraction → Fraction → Type 0
Same x y = x.num *ℤ y.den ≡ y.num *ℤ x.den

abbrev pub IsPositive : Fraction → Type 0
IsPositive x = pos 0 <ℤ x.den

pub same_trans : (x y z : Fraction) → IsPositive y → Same x y → Same y z → Same x z
same_trans x y z p h k =
    let a : y.den *ℤ (x.num *ℤ z.den) ≡ (x.num *ℤ y.den) *ℤ z.den = ring (y.den ∷ x.num ∷ z.den ∷ []) (var 0 ⊗ (var 1 ⊗ var 2)) ((var 1 ⊗ var 0) ⊗ var 2) refl in
    let b : (y.num *ℤ x.den) *ℤ z.den ≡ (y.num *ℤ z.den) *ℤ x.den = ring (y.num ∷ x.den ∷ z.den ∷ []) ((var 0 ⊗ var 1) ⊗ var 2) ((var 0 ⊗ var 2) ⊗ var 1) refl in
    let d : (z.num *ℤ y.den) *ℤ x.den ≡ y.den *ℤ (z.num *ℤ x.den) = ring (z.num ∷ y.den ∷ x.den ∷ []) ((var 0 ⊗ var 1) ⊗ var 2) (var 1 ⊗ (var 0 ⊗ var 2)) refl in
    same_from_times y.den (x.num *ℤ z.den) (z.num *ℤ x.den) p (a ∙ ap (λ v. v *ℤ z.den) h ∙ b ∙ ap (λ v. v *ℤ x.den) k ∙ d)

pub product_along : (x y v w : Fraction) → Same x v → Same y w → Same (product x y) (product v w)
product_along x y v w h k =
    let a : (x.num *ℤ y.num) *ℤ (v.den *ℤ w.den) ≡ (x.num *ℤ v.den) *ℤ (y.num *ℤ w.den) =
    ring (x.num ∷ y.num ∷ v.den ∷ w.den ∷ []) ((var 0 ⊗ var 1) ⊗ (var 2 ⊗ var 3)) ((var 0 ⊗ var 2) ⊗ (var 1 ⊗ var 3)) refl in
    let b : (v.num *ℤ x.den) *ℤ (w.num *ℤ y.den) ≡ (v.num *ℤ w.num) *ℤ (x.den *ℤ y.den) =
    ring (v.num ∷ x.den ∷ w.num ∷ y.den ∷ []) ((var 0 ⊗ var 1) ⊗ (var 2 ⊗ var 3)) ((var 0 ⊗ var 2) ⊗ (var 1 ⊗ var 3)) refl in
    a ∙ ap (λ z. z *ℤ (y.num *ℤ w.den)) h ∙ ap (λ z. (v.num *ℤ x.den) *ℤ z) k ∙ b

pub plus_along : (x y v w : Fraction) → Same x v → Same y w → Same (plus x y) (plus v w)
plus_along x y v w h k =
    let a : ((x.num *ℤ y.den) +ℤ (y.num *ℤ x.den)) *ℤ (v.den *ℤ w.den) ≡ ((x.num *ℤ v.den) *ℤ (y.den *ℤ w.den)) +ℤ ((y.num *ℤ w.den) *ℤ (x.den *ℤ v.den)) =
    ring (x.num ∷ x.den ∷ y.num ∷ y.den ∷ v.den ∷ w.den ∷ []) (((var 0 ⊗ var 3) ⊕ (var 2 ⊗ var 1)) ⊗ (var 4 ⊗ var 5)) (((var 0 ⊗ var 4) ⊗ (var 3 ⊗ var 5)) ⊕ ((var 2 ⊗ var 5) ⊗ (var 1 ⊗ var 4))) refl in
    let b : ((v.num *ℤ x.den) *ℤ (y.den *ℤ w.den)) +ℤ ((w.num *ℤ y.den) *ℤ (x.den *ℤ v.den)) ≡ ((v.num *ℤ w.den) +ℤ (w.num *ℤ v.den)) *ℤ (x.den *ℤ y.den) =
    ring (v.num ∷ v.den ∷ w.num ∷ w.den ∷ x.den ∷ y.den ∷ []) (((var 0 ⊗ var 4) ⊗ (var 5 ⊗ var 3)) ⊕ ((var 2 ⊗ var 5) ⊗ (var 4 ⊗ var 1))) (((var 0 ⊗ var 3) ⊕ (var 2 ⊗ var 1)) ⊗ (var 4 ⊗ var 5)) refl in
    a ∙ ap (λ z. (z *ℤ (y.den *ℤ w.den)) +ℤ ((y.num *ℤ w.den) *ℤ (x.den *ℤ v.den))) h ∙ ap (λ z. ((v.num *ℤ x.den) *ℤ (y.den *ℤ w.den)) +ℤ (z *ℤ (x.den *ℤ v.den))) k ∙ b

pub small_along : (x y : Fraction) → IsPositive x → Same x y → IsSmallValue x → IsSmallValue y
small_along x y p h s = (s.0, s.1, same_trans (held s.0) x y p s.2 h, s.3)

pub small_value : (f : Ratio) (x : Fraction) → IsLowest f → Equals f x.num x.den → IsSmall f → IsSmallValue x
small_value f x low equal small = (f, low, equal, small)

pub not_small : (f : Ratio) (x : Fraction) → IsPositive x → IsLowest f → Equals f x.num x.den → (IsSmall f → ⊥) → IsSmallValue x → ⊥
not_small f x p low equal n s = n (subst IsSmall (same_number s.0 f x.num x.den p s.1 s.2 low equal) s.3)

-- ---- lists
pub small_then : (xs ys : List (ℕ × Fraction)) → AreSmall xs → AreSmall ys → AreSmall (xs ++ ys)
small_then [] ys h k = k
small_then (x ∷ xs) ys h k = (h.0, small_then xs ys h.1 k)

pub beyond_before : (xs ys : List (ℕ × Fraction)) (n : ℕ) → IsFirstBeyond xs n → IsFirstBeyond (xs ++ ys) n
beyond_before [] ys n h = absurd h
beyond_before (x ∷ xs) ys n (inl h) = inl h
beyond_before (x ∷ xs) ys n (inr h) = inr (h.0, beyond_before xs ys n h.1)

pub beyond_after : (xs ys : List (ℕ × Fraction)) (n : ℕ) → AreSmall xs → IsFirstBeyond ys n → IsFirstBeyond (xs ++ ys) n
beyond_after [] ys n h k = k
beyond_after (x ∷ xs) ys n h k = inr (h.0, beyond_after xs ys n h.1 k)

pub not_both : (xs : List (ℕ × Fraction)) (n : ℕ) → IsFirstBeyond xs n → AreSmall xs → ⊥
not_both [] n h k = h
not_both (x ∷ xs) n (inl h) k = h.0 k.0
not_both (x ∷ xs) n (inr h) k = not_both xs n h.1 k.1

-- ---- answers
pub err_answers : (xs : List (ℕ × Fraction)) (x : Fraction) (e : GainBeyond) (r : Result Ratio GainBeyond) → r ≡ Err e → IsFirstBeyond xs e.depth → Answers xs x r
err_answers xs x e r h k = subst (λ (y : Result Ratio GainBeyond). Answers xs x y) (sym h) k

-- one fraction that is formed at depth n, and what becomes of it
abbrev pub KeptAs : Ratio → ℕ → Result Ratio GainBeyond → Type 0
KeptAs f n (Ok g) = (g ≡ f) × IsSmall f
KeptAs f n (Err e) = (e.depth ≡ n) × (IsSmall f → ⊥)

pub kept_as : (f : Ratio) (n : ℕ) (r : Result Ratio GainBeyond) → IfOk r (λ g. (g ≡ f) × IsSmall f) → IfErr r (λ e. (e.depth ≡ n) × (IsSmall f → ⊥)) → KeptAs f n r
kept_as f n (Ok g) h k = h
kept_as f n (Err e) h k = k

-- the first that isn't small, after those that are
pub beyond_here : (xs ys : List (ℕ × Fraction)) (n m : ℕ) (x : Fraction) (f : Ratio) → IsPositive x → AreSmall xs → IsLowest f → Equals f x.num x.den → (m ≡ n) × (IsSmall f → ⊥) → IsFirstBeyond (xs ++ ((n, x) ∷ ys)) m
beyond_here xs ys n m x f p small low equal h = beyond_after xs ((n, x) ∷ ys) m small (inl (not_small f x p low equal h.1, h.0))

-- the last that is formed is the answer
pub last_kept : (xs : List (ℕ × Fraction)) (n : ℕ) (x : Fraction) (f : Ratio) (r : Result Ratio GainBeyond) → IsPositive x → AreSmall xs → IsLowest f → Equals f x.num x.den → KeptAs f n r → Answers (xs ++ ((n, x) ∷ [])) x r
last_kept xs n x f (Ok g) p small low equal h =
    (small_then xs ((n, x) ∷ []) small (small_value f x low equal h.1, tt), subst IsLowest (sym h.0) low, subst (λ (y : Ratio). Equals y x.num x.den) (sym h.0) equal, subst IsSmall (sym h.0) h.1)
last_kept xs n x f (Err e) p small low equal h = beyond_here xs [] n e.depth x f p small low equal h

-- answers for fractions of the same values
pub answers_along : (xs ys : List (ℕ × Fraction)) (x y : Fraction) (r : Result Ratio GainBeyond) → IsPositive x → Same x y → (AreSmall xs → AreSmall ys) → ((n : ℕ) → IsFirstBeyond xs n → IsFirstBeyond ys n) → Answers xs x r → Answers ys y r
answers_along xs ys x y (Ok f) p h small beyond a = (small a.0, a.1, same_trans (held f) x y p a.2 h, a.3)
answers_along xs ys x y (Err e) p h small beyond a = beyond e.depth a

-- after fractions that are small
pub answers_after : (xs ys : List (ℕ × Fraction)) (x : Fraction) (r : Result Ratio GainBeyond) → AreSmall xs → Answers ys x r → Answers (xs ++ ys) x r
answers_after xs ys x (Ok f) small a = (small_then xs ys small a.0, a.1, a.2, a.3)
answers_after xs ys x (Err e) small a = beyond_after xs ys e.depth small a

-- the same depths and values, one by one
abbrev pub Alike : List (ℕ × Fraction) → List (ℕ × Fraction) → Type 0
Alike [] ys = ys ≡ []
Alike (x ∷ xs) [] = ⊥
Alike (x ∷ xs) (y ∷ ys) = (x.0 ≡ y.0) × IsPositive x.1 × IsPositive y.1 × Same x.1 y.1 × Alike xs ys

pub small_alike : (xs ys : List (ℕ × Fraction)) → Alike xs ys → AreSmall xs → AreSmall ys
small_alike [] ys h k = subst AreSmall (sym h) tt
small_alike (x ∷ xs) [] h k = absurd h
small_alike (x ∷ xs) (y ∷ ys) h k = (small_along x.1 y.1 h.1 h.3 k.0, small_alike xs ys h.4 k.1)

pub beyond_alike : (xs ys : List (ℕ × Fraction)) (n : ℕ) → Alike xs ys → IsFirstBeyond xs n → IsFirstBeyond ys n
beyond_alike [] ys n h k = absurd k
beyond_alike (x ∷ xs) [] n h k = absurd h
beyond_alike (x ∷ xs) (y ∷ ys) n h (inl k) = inl ((λ (s : IsSmallValue y.1). k.0 (small_along y.1 x.1 h.2 (sym h.3) s)), k.1 ∙ h.0)
beyond_alike (x ∷ xs) (y ∷ ys) n h (inr k) = inr (small_along x.1 y.1 h.1 h.3 k.0, beyond_alike xs ys n h.4 k.1)

-- ---- what the answers say
pub answers_small : (xs : List (ℕ × Fraction)) (x : Fraction) (r : Result Ratio GainBeyond) → Answers xs x r → IsOk r ↔ AreSmall xs
answers_small xs x (Ok f) h = ((λ y. h.0), (λ y. refl))
answers_small xs x (Err e) h = ((λ y. absurd (true≢false (sym y))), (λ y. absurd (not_both xs e.depth h y)))

pub answers_equal : (xs : List (ℕ × Fraction)) (x : Fraction) (r : Result Ratio GainBeyond) → Answers xs x r → IfOk r (λ f. Equals f x.num x.den)
answers_equal xs x (Ok f) h = h.2
answers_equal xs x (Err e) h = tt

pub answers_lowest : (xs : List (ℕ × Fraction)) (x : Fraction) (r : Result Ratio GainBeyond) → Answers xs x r → IfOk r IsLowest
answers_lowest xs x (Ok f) h = h.1
answers_lowest xs x (Err e) h = tt

pub answers_beyond : (xs : List (ℕ × Fraction)) (x : Fraction) (r : Result Ratio GainBeyond) → Answers xs x r → IfErr r (λ e. IsFirstBeyond xs e.depth)
answers_beyond xs x (Ok f) h = tt
answers_beyond xs x (Err e) h = h
