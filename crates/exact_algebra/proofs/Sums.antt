-- Sums over lists with a bound on each term, weighted averages, and vectors.
use Rattle.std.proofs.Common.{◌≡◌, ℕ, ◌*◌, ◌≤◌, List, [], ◌∷◌, ◌++◌, length, refl, sym, ap, subst, ◌∙◌, arith}
use Rattle.std.specs.Prelude.{ℤ, pos, ◌+ℤ◌, ◌*ℤ◌, ◌≤ℤ◌, All}
use Rattle.std.specs.List.{AllByRecursion}
use Rattle.std.specs.Int.RustNames.{unsigned_abs}
use Rattle.std.proofs.lemmas.List.Elements.{recursion_from_All}
use Rattle.exact_algebra.specs.Poly.{var, lit, ◌⊕◌, ◌⊗◌}
use Rattle.exact_algebra.specs.Sums.{total_by, dot, plus, times, combined}
use Rattle.exact_algebra.proofs.Normal.{ring}
use Rattle.exact_algebra.proofs.Order.{at_most_self, plus_at_most, times_at_most, at_most_from_same, same_from_at_most, abs_product, abs_sum}

-- ---- laws of sums
pub total_by-append : {A : Type 0} (f : A → ℤ) → (xs ys : List A) → total_by f (xs ++ ys) ≡ total_by f xs +ℤ total_by f ys
total_by-append f [] ys = ring (total_by f ys ∷ []) (var 0) (lit (pos 0) ⊕ var 0) refl
total_by-append f (x ∷ xs) ys =
    ap (λ z. f x +ℤ z) (total_by-append f xs ys)
    ∙ ring (f x ∷ total_by f xs ∷ total_by f ys ∷ []) (var 0 ⊕ (var 1 ⊕ var 2)) ((var 0 ⊕ var 1) ⊕ var 2) refl

pub total_by-plus : {A : Type 0} (f g : A → ℤ) → (xs : List A) → total_by (λ x. f x +ℤ g x) xs ≡ total_by f xs +ℤ total_by g xs
total_by-plus f g [] = refl
total_by-plus f g (x ∷ xs) =
    ap (λ z. (f x +ℤ g x) +ℤ z) (total_by-plus f g xs)
    ∙ ring (f x ∷ g x ∷ total_by f xs ∷ total_by g xs ∷ []) ((var 0 ⊕ var 1) ⊕ (var 2 ⊕ var 3)) ((var 0 ⊕ var 2) ⊕ (var 1 ⊕ var 3)) refl

pub total_by-times : {A : Type 0} (k : ℤ) (f : A → ℤ) → (xs : List A) → total_by (λ x. k *ℤ f x) xs ≡ k *ℤ total_by f xs
total_by-times k f [] = ring (k ∷ []) (lit (pos 0)) (var 0 ⊗ lit (pos 0)) refl
total_by-times k f (x ∷ xs) =
    ap (λ z. k *ℤ f x +ℤ z) (total_by-times k f xs)
    ∙ ring (k ∷ f x ∷ total_by f xs ∷ []) (var 0 ⊗ var 1 ⊕ var 0 ⊗ var 2) (var 0 ⊗ (var 1 ⊕ var 2)) refl

pub total_by-times_right : {A : Type 0} (k : ℤ) (f : A → ℤ) → (xs : List A) → total_by (λ x. f x *ℤ k) xs ≡ total_by f xs *ℤ k
total_by-times_right k f [] = ring (k ∷ []) (lit (pos 0)) (lit (pos 0) ⊗ var 0) refl
total_by-times_right k f (x ∷ xs) =
    ap (λ z. f x *ℤ k +ℤ z) (total_by-times_right k f xs)
    ∙ ring (k ∷ f x ∷ total_by f xs ∷ []) (var 1 ⊗ var 0 ⊕ var 2 ⊗ var 0) ((var 1 ⊕ var 2) ⊗ var 0) refl

-- ---- a bound on each term
at_most_each : {A : Type 0} (f g : A → ℤ) (xs : List A) → AllByRecursion (λ x. f x ≤ℤ g x) xs → total_by f xs ≤ℤ total_by g xs
at_most_each f g [] h = at_most_self (pos 0)
at_most_each f g (x ∷ xs) h = plus_at_most (f x) (g x) (total_by f xs) (total_by g xs) h.0 (at_most_each f g xs h.1)

pub total_by_at_most : {A : Type 0} (f g : A → ℤ) (xs : List A) → All (λ x. f x ≤ℤ g x) xs → total_by f xs ≤ℤ total_by g xs
total_by_at_most f g xs h = at_most_each f g xs (recursion_from_All (λ x. f x ≤ℤ g x) xs h)

pub total_by_same : {A : Type 0} (f g : A → ℤ) (xs : List A) → All (λ x. f x ≡ g x) xs → total_by f xs ≡ total_by g xs
total_by_same f g xs h =
    same_from_at_most (total_by f xs) (total_by g xs)
    (total_by_at_most f g xs (λ k d l. at_most_from_same _ _ (h k d l)))
    (total_by_at_most g f xs (λ k d l. at_most_from_same _ _ (sym (h k d l))))

total_by-zero : {A : Type 0} (xs : List A) → total_by (λ _. pos 0) xs ≡ pos 0
total_by-zero [] = refl
total_by-zero (x ∷ xs) = ap (λ z. pos 0 +ℤ z) (total_by-zero xs)

pub total_by_at_least_zero : {A : Type 0} (f : A → ℤ) (xs : List A) → All (λ x. pos 0 ≤ℤ f x) xs → pos 0 ≤ℤ total_by f xs
total_by_at_least_zero f xs h = subst (λ z. z ≤ℤ total_by f xs) (total_by-zero xs) (total_by_at_most (λ _. pos 0) f xs h)

-- ---- weighted averages, cleared by the sum of the weights
pub weighted_at_most : {A : Type 0} (w f : A → ℤ) (bound : ℤ) (xs : List A) → All (λ x. pos 0 ≤ℤ w x) xs → All (λ x. f x ≤ℤ bound) xs
    → total_by (λ x. w x *ℤ f x) xs ≤ℤ (total_by w xs *ℤ bound)
weighted_at_most w f bound xs h k =
    subst (λ z. total_by (λ x. w x *ℤ f x) xs ≤ℤ z) (total_by-times_right bound w xs)
    (total_by_at_most (λ x. w x *ℤ f x) (λ x. w x *ℤ bound) xs (λ i d l. times_at_most _ _ bound (h i d l) (k i d l)))

pub weighted_at_least : {A : Type 0} (w f : A → ℤ) (bound : ℤ) (xs : List A) → All (λ x. pos 0 ≤ℤ w x) xs → All (λ x. bound ≤ℤ f x) xs
    → (total_by w xs *ℤ bound) ≤ℤ total_by (λ x. w x *ℤ f x) xs
weighted_at_least w f bound xs h k =
    subst (λ z. z ≤ℤ total_by (λ x. w x *ℤ f x) xs) (total_by-times_right bound w xs)
    (total_by_at_most (λ x. w x *ℤ bound) (λ x. w x *ℤ f x) xs (λ i d l. times_at_most _ bound _ (h i d l) (k i d l)))

-- ---- vectors
pub dot_comm : (xs ys : List ℤ) → dot xs ys ≡ dot ys xs
dot_comm [] [] = refl
dot_comm [] (y ∷ ys) = refl
dot_comm (x ∷ xs) [] = refl
dot_comm (x ∷ xs) (y ∷ ys) =
    ap (λ z. x *ℤ y +ℤ z) (dot_comm xs ys) ∙ ring (x ∷ y ∷ dot ys xs ∷ []) (var 0 ⊗ var 1 ⊕ var 2) (var 1 ⊗ var 0 ⊕ var 2) refl

dot-nil : (xs : List ℤ) → dot xs [] ≡ pos 0
dot-nil [] = refl
dot-nil (x ∷ xs) = refl

pub dot-plus : (xs ys zs : List ℤ) → dot (plus xs ys) zs ≡ dot xs zs +ℤ dot ys zs
dot-plus [] ys zs = ring (dot ys zs ∷ []) (var 0) (lit (pos 0) ⊕ var 0) refl
dot-plus (x ∷ xs) [] zs = ring (dot (x ∷ xs) zs ∷ []) (var 0) (var 0 ⊕ lit (pos 0)) refl
dot-plus (x ∷ xs) (y ∷ ys) [] = refl
dot-plus (x ∷ xs) (y ∷ ys) (z ∷ zs) =
    ap (λ t. (x +ℤ y) *ℤ z +ℤ t) (dot-plus xs ys zs)
    ∙ ring (x ∷ y ∷ z ∷ dot xs zs ∷ dot ys zs ∷ []) ((var 0 ⊕ var 1) ⊗ var 2 ⊕ (var 3 ⊕ var 4)) ((var 0 ⊗ var 2 ⊕ var 3) ⊕ (var 1 ⊗ var 2 ⊕ var 4)) refl

pub dot-times : (k : ℤ) (xs zs : List ℤ) → dot (times k xs) zs ≡ k *ℤ dot xs zs
dot-times k [] zs = ring (k ∷ []) (lit (pos 0)) (var 0 ⊗ lit (pos 0)) refl
dot-times k (x ∷ xs) [] = ring (k ∷ []) (lit (pos 0)) (var 0 ⊗ lit (pos 0)) refl
dot-times k (x ∷ xs) (z ∷ zs) =
    ap (λ t. (k *ℤ x) *ℤ z +ℤ t) (dot-times k xs zs)
    ∙ ring (k ∷ x ∷ z ∷ dot xs zs ∷ []) ((var 0 ⊗ var 1) ⊗ var 2 ⊕ var 0 ⊗ var 3) (var 0 ⊗ (var 1 ⊗ var 2 ⊕ var 3)) refl

pub dot-plus_right : (xs ys zs : List ℤ) → dot zs (plus xs ys) ≡ dot zs xs +ℤ dot zs ys
dot-plus_right xs ys zs = dot_comm zs (plus xs ys) ∙ dot-plus xs ys zs ∙ ap (λ t. t +ℤ dot ys zs) (dot_comm xs zs) ∙ ap (λ t. dot zs xs +ℤ t) (dot_comm ys zs)

pub dot-times_right : (k : ℤ) (xs zs : List ℤ) → dot zs (times k xs) ≡ k *ℤ dot zs xs
dot-times_right k xs zs = dot_comm zs (times k xs) ∙ dot-times k xs zs ∙ ap (λ t. k *ℤ t) (dot_comm xs zs)

-- the combination of vectors, multiplied by another vector
pub dot-combined : {A : Type 0} (w : A → ℤ) (v : A → List ℤ) (xs : List A) (zs : List ℤ) → dot (combined w v xs) zs ≡ total_by (λ x. w x *ℤ dot (v x) zs) xs
dot-combined w v [] zs = refl
dot-combined w v (x ∷ xs) zs =
    dot-plus (times (w x) (v x)) (combined w v xs) zs ∙ ap (λ t. t +ℤ dot (combined w v xs) zs) (dot-times (w x) (v x) zs)
    ∙ ap (λ t. w x *ℤ dot (v x) zs +ℤ t) (dot-combined w v xs zs)

abs_dot_each : (m n : ℕ) (xs ys : List ℤ) → AllByRecursion (λ x. unsigned_abs x ≤ m) xs → AllByRecursion (λ y. unsigned_abs y ≤ n) ys → unsigned_abs (dot xs ys) ≤ length xs * (m * n)
abs_dot_each m n [] ys h k = omega arith
abs_dot_each m n (x ∷ xs) [] h k = omega arith
abs_dot_each m n (x ∷ xs) (y ∷ ys) h k =
    let s = abs_sum (x *ℤ y) (dot xs ys) (m * n) (length xs * (m * n)) (abs_product x y m n h.0 k.0) (abs_dot_each m n xs ys h.1 k.1) in
    omega arith

-- the size of a dot product, by the sizes of the parts
pub abs_dot : (m n : ℕ) (xs ys : List ℤ) → All (λ x. unsigned_abs x ≤ m) xs → All (λ y. unsigned_abs y ≤ n) ys → unsigned_abs (dot xs ys) ≤ length xs * (m * n)
abs_dot m n xs ys h k = abs_dot_each m n xs ys (recursion_from_All (λ x. unsigned_abs x ≤ m) xs h) (recursion_from_All (λ y. unsigned_abs y ≤ n) ys k)
