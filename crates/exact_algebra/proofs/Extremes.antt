-- A list that isn't empty has a greatest and a least value, and a least whole bound in each unit.
use Rattle.std.proofs.Common.{◌≡◌, suc, List, [], ◌∷◌, refl, sym, subst, arith}
use Rattle.std.specs.Prelude.{ℤ, pos, ◌-ℤ◌, ◌*ℤ◌, ◌≤ℤ◌, ◌<ℤ◌, All, Any}
use Rattle.std.proofs.lemmas.List.Elements.{All-nil, All-cons}
use Rattle.std.proofs.lemmas.Int.{ints, by_lt_z}
use Rattle.exact_algebra.specs.Extremes.{IsGreatest, IsLeast}
use Rattle.exact_algebra.proofs.Order.{at_most_self, at_most_trans}
use Rattle.exact_algebra.proofs.Quotients.{ceiling_exists}

any_head : {A : Type 0} (P : A → Type 0) (x : A) (xs : List A) → P x → Any P (x ∷ xs)
any_head P x xs p = (0, x, omega arith, refl, p)

any_tail : {A : Type 0} (P : A → Type 0) (x : A) (xs : List A) → Any P xs → Any P (x ∷ xs)
any_tail P x xs h = (suc h.0, h.1, omega (arith, h.2), h.3, h.4)

any_maps : {A : Type 0} (P Q : A → Type 0) (xs : List A) → ((x : A) → P x → Q x) → Any P xs → Any Q xs
any_maps P Q xs f h = (h.0, h.1, h.2, h.3, f h.1 h.4)

pub greatest_exists : {A : Type 0} (f : A → ℤ) (x : A) (xs : List A) → (m : ℤ) × IsGreatest f (x ∷ xs) m
greatest_exists f x [] =
    (f x, record { bounds = All-cons (λ y. f y ≤ℤ f x) x [] (at_most_self (f x)) (All-nil (λ y. f y ≤ℤ f x)); reached = any_head (λ y. f y ≡ f x) x [] refl })
greatest_exists f x (y ∷ ys) =
    let rest = greatest_exists f y ys in
    let m = rest.0 in
    by_lt_z (f x) m
    (λ h. (m, record { bounds = All-cons (λ z. f z ≤ℤ m) x (y ∷ ys) (omega (arith, ints)) rest.1.bounds; reached = any_tail (λ z. f z ≡ m) x (y ∷ ys) rest.1.reached }))
    (λ h. (
      f x,
      record {
        bounds = All-cons (λ z. f z ≤ℤ f x) x (y ∷ ys) (at_most_self (f x)) (λ k d l. at_most_trans _ m (f x) (rest.1.bounds k d l) h);
        reached = any_head (λ z. f z ≡ f x) x (y ∷ ys) refl;
      },
    ))

pub least_exists : {A : Type 0} (f : A → ℤ) (x : A) (xs : List A) → (m : ℤ) × IsLeast f (x ∷ xs) m
least_exists f x [] =
    (f x, record { bounds = All-cons (λ y. f x ≤ℤ f y) x [] (at_most_self (f x)) (All-nil (λ y. f x ≤ℤ f y)); reached = any_head (λ y. f y ≡ f x) x [] refl })
least_exists f x (y ∷ ys) =
    let rest = least_exists f y ys in
    let m = rest.0 in
    by_lt_z m (f x)
    (λ h. (m, record { bounds = All-cons (λ z. m ≤ℤ f z) x (y ∷ ys) (omega (arith, ints)) rest.1.bounds; reached = any_tail (λ z. f z ≡ m) x (y ∷ ys) rest.1.reached }))
    (λ h. (
      f x,
      record {
        bounds = All-cons (λ z. f x ≤ℤ f z) x (y ∷ ys) (at_most_self (f x)) (λ k d l. at_most_trans (f x) m _ h (rest.1.bounds k d l));
        reached = any_head (λ z. f z ≡ f x) x (y ∷ ys) refl;
      },
    ))

-- q is the least whole number whose multiple by the unit bounds all values
pub least_bound_exists : {A : Type 0} (f : A → ℤ) (unit : ℤ) (x : A) (xs : List A) → pos 0 <ℤ unit
    → (q : ℤ) × All (λ y. f y ≤ℤ (q *ℤ unit)) (x ∷ xs) × Any (λ y. ((q -ℤ pos 1) *ℤ unit) <ℤ f y) (x ∷ xs)
least_bound_exists f unit x xs p =
    let most = greatest_exists f x xs in
    let c = ceiling_exists most.0 unit p in (
      c.0,
      λ k d l. at_most_trans _ most.0 (c.0 *ℤ unit) (most.1.bounds k d l) c.1.reaches,
      any_maps (λ y. f y ≡ most.0) (λ y. ((c.0 -ℤ pos 1) *ℤ unit) <ℤ f y) (x ∷ xs) (λ y e. subst (λ z. ((c.0 -ℤ pos 1) *ℤ unit) <ℤ z) (sym e) c.1.no_less) most.1.reached,
    )
