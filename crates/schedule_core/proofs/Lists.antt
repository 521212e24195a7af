-- Lists that are read by `get_elem?`.
use Rattle.std.proofs.Common.{◌≡◌, ◌≢◌, ◌⊎◌, ℕ, zero, suc, ◌<◌, List, [], ◌∷◌, ◌++◌, map, length, get_or, set, refl, sym, ap, subst, ◌∙◌, inl, inr, ⊎_elim, arith}
use Rattle.std.proofs.lemmas.List.{get_or-set_same, get_or-set_other}
use Rattle.std.proofs.lemmas.Bool.{cases_eq}
use mathlib.Core.Option.{some, some-injective, some-ne-none}
use lib.ListN.{get_elem?}

module _ {A : Type 0} where
  pub at_set : (l : List A) (i j : ℕ) (a b : A) → get_elem? (set l i a) j ≡ some b → ((j ≡ i) × (a ≡ b)) ⊎ ((j ≢ i) × (get_elem? l j ≡ some b))
  at_set [] i j a b e = absurd (some-ne-none b (sym e))
  at_set (x ∷ xs) zero zero a b e = inl (refl, some-injective a b e)
  at_set (x ∷ xs) zero (suc j) a b e = inr ((λ h. omega arith), e)
  at_set (x ∷ xs) (suc i) zero a b e = inr ((λ h. omega arith), e)
  at_set (x ∷ xs) (suc i) (suc j) a b e = ⊎_elim (λ t. inl (ap suc t.0, t.1)) (λ t. let n = t.0 in inr ((λ h. n (omega arith)), t.1)) (at_set xs i j a b e)

  -- what stands at a place after a write there
  pub set_found : (l : List A) (i : ℕ) (a b : A) → get_elem? l i ≡ some a → get_elem? (set l i b) i ≡ some b
  set_found [] i a b e = absurd (some-ne-none a (sym e))
  set_found (x ∷ xs) zero a b e = refl
  set_found (x ∷ xs) (suc i) a b e = set_found xs i a b e

  pub set_else : (l : List A) (i j : ℕ) (a : A) → j ≢ i → get_elem? (set l i a) j ≡ get_elem? l j
  set_else [] i j a n = refl
  set_else (x ∷ xs) zero zero a n = absurd (n refl)
  set_else (x ∷ xs) zero (suc j) a n = refl
  set_else (x ∷ xs) (suc i) zero a n = refl
  set_else (x ∷ xs) (suc i) (suc j) a n = set_else xs i j a (λ e. n (ap suc e))

  pub at_longer : (l m : List A) (i : ℕ) (a : A) → get_elem? l i ≡ some a → get_elem? (l ++ m) i ≡ some a
  at_longer [] m i a e = absurd (some-ne-none a (sym e))
  at_longer (x ∷ xs) m zero a e = e
  at_longer (x ∷ xs) m (suc i) a e = at_longer xs m i a e

  pub at_snoc : (l : List A) (a b : A) (j : ℕ) → get_elem? (l ++ a ∷ []) j ≡ some b → (get_elem? l j ≡ some b) ⊎ (a ≡ b)
  at_snoc [] a b zero e = inr (some-injective a b e)
  at_snoc [] a b (suc j) e = absurd (some-ne-none b (sym e))
  at_snoc (x ∷ xs) a b zero e = inl e
  at_snoc (x ∷ xs) a b (suc j) e = at_snoc xs a b j e

  pub found : (l : List A) (i : ℕ) (d : A) → i < length l → get_elem? l i ≡ some (get_or l i d)
  found [] i d h = absurd (omega arith)
  found (x ∷ xs) zero d h = refl
  found (x ∷ xs) (suc i) d h = found xs i d (omega arith)

  pub got : (l : List A) (i : ℕ) (a d : A) → get_elem? l i ≡ some a → get_or l i d ≡ a
  got [] i a d e = absurd (some-ne-none a (sym e))
  got (x ∷ xs) zero a d e = some-injective x a e
  got (x ∷ xs) (suc i) a d e = got xs i a d e

  pub there : (l : List A) (i : ℕ) (a : A) → get_elem? l i ≡ some a → i < length l
  there [] i a e = absurd (some-ne-none a (sym e))
  there (x ∷ xs) zero a e = omega arith
  there (x ∷ xs) (suc i) a e = let h = there xs i a e in omega arith

  pub same_found : (l : List A) (i : ℕ) (a b : A) → get_elem? l i ≡ some a → get_elem? l i ≡ some b → a ≡ b
  same_found l i a b e h = some-injective a b (sym e ∙ h)

  -- what holds of each that is found, after a write
  pub each_found : (P : ℕ → A → Type 0) (l : List A) (i : ℕ) (a : A) → P i a → ((j : ℕ) (b : A) → j ≢ i → get_elem? l j ≡ some b → P j b) → (j : ℕ) (b : A) → get_elem? (set l i a) j ≡ some b → P j b
  each_found P l i a here all j b e = ⊎_elim
      (λ (t : (j ≡ i) × (a ≡ b)). subst (λ (x : A). P j x) t.1 (subst (λ (k : ℕ). P k a) (sym t.0) here))
      (λ (t : (j ≢ i) × (get_elem? l j ≡ some b)). all j b t.0 t.1)
      (at_set l i j a b e)

-- where each item becomes another
pub at_map : {A B : Type 0} (f : A → B) (l : List A) (i : ℕ) (a : A) → get_elem? l i ≡ some a → get_elem? (map f l) i ≡ some (f a)
at_map f [] i a e = absurd (some-ne-none a (sym e))
at_map f (x ∷ xs) zero a e = ap (λ y. some (f y)) (some-injective x a e)
at_map f (x ∷ xs) (suc i) a e = at_map f xs i a e

pub from_map : {A B : Type 0} (f : A → B) (l : List A) (i : ℕ) (b : B) → get_elem? (map f l) i ≡ some b → (a : A) × (get_elem? l i ≡ some a) × (f a ≡ b)
from_map f [] i b e = absurd (some-ne-none b (sym e))
from_map f (x ∷ xs) zero b e = (x, refl, some-injective (f x) b e)
from_map f (x ∷ xs) (suc i) b e = from_map f xs i b e

-- what holds of each place of a list, after a write that keeps it
pub each_after : {X : Type 0} (P : ℕ → X → Type 0) (d : X) (xs : List X) (n r : ℕ) (x : X) → r < length xs → P r x → ((j : ℕ) → j < n → P j (get_or xs j d))
    → (j : ℕ) → j < n → P j (get_or (set xs r x) j d)
each_after P d xs n r x fits here all j below = elim (cases_eq j r) [
  | inl e ↦ subst (λ (k : ℕ). P k (get_or (set xs r x) k d)) (sym e) (subst (P r) (sym (get_or-set_same xs r x d fits)) here)
  | inr ne ↦ subst (P j) (sym (get_or-set_other xs r j x d ne)) (all j below)
]

-- the same of two lists, after a write to both
pub each_of_both : {X Y : Type 0} (P : ℕ → X → Y → Type 0) (d : X) (e : Y) (xs : List X) (ys : List Y) (n r : ℕ) (x : X) (y : Y) → r < length xs → r < length ys → P r x y
    → ((j : ℕ) → j < n → P j (get_or xs j d) (get_or ys j e)) → (j : ℕ) → j < n → P j (get_or (set xs r x) j d) (get_or (set ys r y) j e)
each_of_both P d e xs ys n r x y fits fits' here all j below = elim (cases_eq j r) [
  | inl is ↦ subst (λ (k : ℕ). P k (get_or (set xs r x) k d) (get_or (set ys r y) k e)) (sym is)
      (subst (λ z. P r z (get_or (set ys r y) r e)) (sym (get_or-set_same xs r x d fits)) (subst (λ z. P r x z) (sym (get_or-set_same ys r y e fits')) here))
  | inr ne ↦ subst (λ z. P j z (get_or (set ys r y) j e)) (sym (get_or-set_other xs r j x d ne)) (subst (λ z. P j (get_or xs j d) z) (sym (get_or-set_other ys r j y e ne)) (all j below))
]
