-- Sums of whole numbers, weighted averages, and the greatest of finitely many.
use Rattle.std.proofs.Common.{◌≡◌, ◌≢◌, ◌⊎◌, inl, inr, ℕ, zero, suc, ◌<◌, List, [], ◌∷◌, length, get_or, refl, ap, sym, ◌∙◌, subst, arith}
use Rattle.std.specs.Prelude.{ℤ, pos, ◌+ℤ◌, ◌*ℤ◌, ◌≤ℤ◌}
use Rattle.std.specs.Int.{int_max}
use Rattle.std.proofs.lemmas.Int.{ints, clamps, by_lt_z}
use Rattle.std.proofs.lemmas.Bool.{cases_eq}
use Rattle.exact_algebra.specs.Poly.{var, lit, ◌⊕◌, ◌⊗◌}
use Rattle.exact_algebra.proofs.Normal.{ring}
use Rattle.exact_algebra.proofs.Order.{at_most_self, plus_at_most, times_at_most}
use Rattle.bound_laws.proofs.Order.{at_most_along, nought_times, times_nought}
use Rattle.game_model.specs.SelfGeneration.{Entry, no_entry, part, sum_below, dot, total_weight, weighted_part}
use Rattle.level_table.specs.Problem.{largest}

-- what holds below n and at n holds below n + 1
pub below_next : (P : ℕ → Type 0) (n : ℕ) → ((i : ℕ) → i < n → P i) → P n → (i : ℕ) → i < suc n → P i
below_next P n before here i within = elim (cases_eq n i) [
  | inl same ↦ subst P same here
  | inr other ↦ before i (let ne : n ≢ i = other in omega arith)
]

-- ---- sums
pub sum_below-same : (f g : ℕ → ℤ) (n : ℕ) → ((i : ℕ) → i < n → f i ≡ g i) → sum_below f n ≡ sum_below g n
sum_below-same f g zero h = refl
sum_below-same f g (suc n) h =
    ap (λ z. z +ℤ f n) (sum_below-same f g n (λ i within. h i (omega arith))) ∙ ap (λ z. sum_below g n +ℤ z) (h n (omega arith))

pub sum_below-at_most : (f g : ℕ → ℤ) (n : ℕ) → ((i : ℕ) → i < n → f i ≤ℤ g i) → sum_below f n ≤ℤ sum_below g n
sum_below-at_most f g zero h = omega (arith, ints)
sum_below-at_most f g (suc n) h =
    let before : sum_below f n ≤ℤ sum_below g n = sum_below-at_most f g n (λ i within. h i (omega arith)) in
    let here : f n ≤ℤ g n = h n (omega arith) in
    omega (arith, ints)

pub sum_below-times : (c : ℤ) (f : ℕ → ℤ) (n : ℕ) → sum_below (λ i. c *ℤ f i) n ≡ c *ℤ sum_below f n
sum_below-times c f zero = sym (times_nought c)
sum_below-times c f (suc n) =
    ap (λ z. z +ℤ (c *ℤ f n)) (sum_below-times c f n)
    ∙ ring (c ∷ sum_below f n ∷ f n ∷ []) (var 0 ⊗ var 1 ⊕ var 0 ⊗ var 2) (var 0 ⊗ (var 1 ⊕ var 2)) refl

pub sum_below-plus : (f g : ℕ → ℤ) (n : ℕ) → sum_below (λ i. f i +ℤ g i) n ≡ sum_below f n +ℤ sum_below g n
sum_below-plus f g zero = refl
sum_below-plus f g (suc n) =
    ap (λ z. z +ℤ (f n +ℤ g n)) (sum_below-plus f g n)
    ∙ ring (sum_below f n ∷ sum_below g n ∷ f n ∷ g n ∷ []) ((var 0 ⊕ var 1) ⊕ (var 2 ⊕ var 3)) ((var 0 ⊕ var 2) ⊕ (var 1 ⊕ var 3)) refl

pub sum_below-zero : (f : ℕ → ℤ) (n : ℕ) → ((i : ℕ) → i < n → f i ≡ pos 0) → sum_below f n ≡ pos 0
sum_below-zero f zero h = refl
sum_below-zero f (suc n) h =
    ap (λ z. z +ℤ f n) (sum_below-zero f n (λ i within. h i (omega arith))) ∙ ap (λ z. pos 0 +ℤ z) (h n (omega arith))

-- a sum of which one term alone is not 0
pub sum_below-one : (f : ℕ → ℤ) (n i : ℕ) → i < n → ((j : ℕ) → j < n → j ≢ i → f j ≡ pos 0) → sum_below f n ≡ f i
sum_below-one f zero i within h = absurd (omega arith)
sum_below-one f (suc n) i within h = elim (cases_eq n i) [
  | inl same ↦ (let zeros : sum_below f n ≡ pos 0 = sum_below-zero f n (λ j below. h j (omega arith) (λ e. omega arith)) in
      ap (λ z. z +ℤ f n) zeros ∙ ring (f n ∷ []) (lit (pos 0) ⊕ var 0) (var 0) refl ∙ ap f same)
  | inr other ↦ (let ne : n ≢ i = other in
      let before : sum_below f n ≡ f i = sum_below-one f n i (omega arith) (λ j below e. h j (omega arith) e) in
      ap (λ z. z +ℤ f n) before ∙ ap (λ z. f i +ℤ z) (h n (omega arith) other) ∙ ring (f i ∷ []) (var 0 ⊕ lit (pos 0)) (var 0) refl)
]

-- ---- weighted averages
abbrev pub outcome : List (ℕ × ℕ) → ℕ → ℕ
outcome os k = (get_or os k (0, 0)).0

abbrev point_of : List Entry → ℕ → List ℤ
point_of es j = (get_or es j no_entry).point

-- one outcome more
add_weighted : (c w x rest total bound : ℤ) → pos 0 ≤ℤ w → (c *ℤ x) ≤ℤ bound → (c *ℤ rest) ≤ℤ (total *ℤ bound)
    → (c *ℤ (w *ℤ x +ℤ rest)) ≤ℤ ((w +ℤ total) *ℤ bound)
add_weighted c w x rest total bound positive h k =
    at_most_along
    (ring (w ∷ c ∷ x ∷ rest ∷ []) (var 0 ⊗ (var 1 ⊗ var 2) ⊕ var 1 ⊗ var 3) (var 1 ⊗ (var 0 ⊗ var 2 ⊕ var 3)) refl)
    (ring (w ∷ bound ∷ total ∷ []) (var 0 ⊗ var 1 ⊕ var 2 ⊗ var 1) ((var 0 ⊕ var 2) ⊗ var 1) refl)
    (plus_at_most (w *ℤ (c *ℤ x)) (w *ℤ bound) (c *ℤ rest) (total *ℤ bound) (times_at_most w (c *ℤ x) bound positive h) k)

-- no outcome
none_weighted : (c rest bound : ℤ) → rest ≡ pos 0 → (c *ℤ rest) ≤ℤ (pos 0 *ℤ bound)
none_weighted c rest bound e = at_most_along (sym (ap (λ z. c *ℤ z) e ∙ times_nought c)) (sym (nought_times bound)) (at_most_self (pos 0))

-- where each outcome keeps a bound in one part, so does their average
pub weighted_part_at_most : (es : List Entry) (i : ℕ) (c bound : ℤ) (os : List (ℕ × ℕ))
    → ((k : ℕ) → k < length os → (c *ℤ part (point_of es (outcome os k)) i) ≤ℤ bound)
    → (c *ℤ weighted_part es i os) ≤ℤ (pos (total_weight os) *ℤ bound)
weighted_part_at_most es i c bound [] h = none_weighted c (pos 0) bound refl
weighted_part_at_most es i c bound (o ∷ os) h =
    add_weighted c (pos o.1) (part (point_of es o.0) i) (weighted_part es i os) (pos (total_weight os)) bound (omega (arith, ints))
    (h 0 (omega arith))
    (weighted_part_at_most es i c bound os (λ k within. h (suc k) (omega arith)))

-- the same of a direction
abbrev weighted_dot : List Entry → ℕ → List ℤ → List (ℕ × ℕ) → ℤ
weighted_dot es n v os = sum_below (λ i. part v i *ℤ weighted_part es i os) n

weighted_dot-cons : (es : List Entry) (n : ℕ) (v : List ℤ) (o : ℕ × ℕ) (os : List (ℕ × ℕ))
    → weighted_dot es n v (o ∷ os) ≡ pos o.1 *ℤ dot n v (point_of es o.0) +ℤ weighted_dot es n v os
weighted_dot-cons es n v o os =
    let first = λ (i : ℕ). part v i *ℤ part (point_of es o.0) i in
    let rest = λ (i : ℕ). part v i *ℤ weighted_part es i os in
    sum_below-same (λ i. part v i *ℤ weighted_part es i (o ∷ os)) (λ i. (pos o.1 *ℤ first i) +ℤ rest i) n
    (λ i within. ring (part v i ∷ pos o.1 ∷ part (point_of es o.0) i ∷ weighted_part es i os ∷ []) (var 0 ⊗ (var 1 ⊗ var 2 ⊕ var 3)) (var 1 ⊗ (var 0 ⊗ var 2) ⊕ var 0 ⊗ var 3) refl)
    ∙ sum_below-plus (λ i. pos o.1 *ℤ first i) rest n
    ∙ ap (λ z. z +ℤ sum_below rest n) (sum_below-times (pos o.1) first n)

pub weighted_dot_at_most : (es : List Entry) (n : ℕ) (v : List ℤ) (c bound : ℤ) (os : List (ℕ × ℕ))
    → ((k : ℕ) → k < length os → (c *ℤ dot n v (point_of es (outcome os k))) ≤ℤ bound)
    → (c *ℤ weighted_dot es n v os) ≤ℤ (pos (total_weight os) *ℤ bound)
weighted_dot_at_most es n v c bound [] h =
    none_weighted c (weighted_dot es n v []) bound (sum_below-zero (λ i. part v i *ℤ pos 0) n (λ i within. times_nought (part v i)))
weighted_dot_at_most es n v c bound (o ∷ os) h =
    at_most_along (ap (λ z. c *ℤ z) (sym (weighted_dot-cons es n v o os))) refl
    (add_weighted c (pos o.1) (dot n v (point_of es o.0)) (weighted_dot es n v os) (pos (total_weight os)) bound (omega (arith, ints))
    (h 0 (omega arith))
    (weighted_dot_at_most es n v c bound os (λ k within. h (suc k) (omega arith))))

-- ---- the greatest of finitely many
pub record IsGreatestAt (f : ℕ → ℤ) (n i : ℕ) : Type 0 where
  pub within : i < n
  pub greatest : (j : ℕ) → j < n → f j ≤ℤ f i

pub greatest_below : (f : ℕ → ℤ) (n : ℕ) → (i : ℕ) × IsGreatestAt f (suc n) i
greatest_below f zero = (
  0,
  record {
    within = omega arith;
    greatest = below_next (λ j. f j ≤ℤ f 0) 0 (λ j none. absurd (omega arith)) (omega (arith, ints));
  },
)
greatest_below f (suc n) =
    let before = greatest_below f n in
    by_lt_z (f before.0) (f (suc n))
    (λ above. (
      suc n,
      record {
        within = omega arith;
        greatest = below_next (λ j. f j ≤ℤ f (suc n)) (suc n) (λ j below. let h : f j ≤ℤ f before.0 = before.1.greatest j below in omega (arith, ints)) (omega (arith, ints));
      },
    ))
    (λ not_above. (
      before.0,
      record {
        within = (let h : before.0 < suc n = before.1.within in omega arith);
        greatest = below_next (λ j. f j ≤ℤ f before.0) (suc n) before.1.greatest not_above;
      },
    ))

-- the greatest over finitely many lists, if one of them has an element
pub record HasGreatest (f : ℕ → ℕ → ℤ) (size : ℕ → ℕ) (n : ℕ) : Type 0 where
  pub list : ℕ
  pub place : ℕ
  pub list_known : list < n
  pub place_known : place < size list
  pub greatest : (s j : ℕ) → s < n → j < size s → f s j ≤ℤ f list place

abbrev IsNoneBelow : (ℕ → ℕ) → ℕ → Type 0
IsNoneBelow size n = (s j : ℕ) → s < n → j < size s → ⊥

with_none : (f : ℕ → ℕ → ℤ) (size : ℕ → ℕ) (n : ℕ) → IsNoneBelow size n → (m : ℕ) → size n ≡ m → IsNoneBelow size (suc n) ⊎ HasGreatest f size (suc n)
with_none f size n none zero e = inl (λ s j within. below_next (λ r. j < size r → ⊥) n (λ r below. none r j below) (λ h. absurd (omega arith)) s within)
with_none f size n none (suc m) e =
    let top = greatest_below (f n) m in
    inr (record {
      list = n;
      place = top.0;
      list_known = omega arith;
      place_known = (let h : top.0 < suc m = top.1.within in omega arith);
      greatest = λ s j within. below_next (λ r. j < size r → f r j ≤ℤ f n top.0) n (λ r below h. absurd (none r j below h)) (λ h. top.1.greatest j (omega arith)) s within;
    })

with_some : (f : ℕ → ℕ → ℤ) (size : ℕ → ℕ) (n : ℕ) → HasGreatest f size n → (m : ℕ) → size n ≡ m → HasGreatest f size (suc n)
with_some f size n old zero e =
    record {
      list = old.list;
      place = old.place;
      list_known = (let h : old.list < n = old.list_known in omega arith);
      place_known = old.place_known;
      greatest = λ s j within. below_next (λ r. j < size r → f r j ≤ℤ f old.list old.place) n (λ r below. old.greatest r j below) (λ h. absurd (omega arith)) s within;
    }
with_some f size n old (suc m) e =
    let top = greatest_below (f n) m in
    by_lt_z (f old.list old.place) (f n top.0)
    (λ above. record {
      list = n;
      place = top.0;
      list_known = omega arith;
      place_known = (let h : top.0 < suc m = top.1.within in omega arith);
      greatest = λ s j within. below_next (λ r. j < size r → f r j ≤ℤ f n top.0) n
          (λ r below h. let k : f r j ≤ℤ f old.list old.place = old.greatest r j below h in omega (arith, ints)) (λ h. top.1.greatest j (omega arith)) s within;
    })
    (λ not_above. record {
      list = old.list;
      place = old.place;
      list_known = (let h : old.list < n = old.list_known in omega arith);
      place_known = old.place_known;
      greatest = λ s j within. below_next (λ r. j < size r → f r j ≤ℤ f old.list old.place) n (λ r below. old.greatest r j below)
          (λ h. let k : f n j ≤ℤ f n top.0 = top.1.greatest j (omega arith) in omega (arith, ints)) s within;
    })

pub greatest_of_lists : (f : ℕ → ℕ → ℤ) (size : ℕ → ℕ) (n : ℕ) → IsNoneBelow size n ⊎ HasGreatest f size n
greatest_of_lists f size zero = inl (λ s j within. absurd (omega arith))
greatest_of_lists f size (suc n) = elim (greatest_of_lists f size n) [
  | inl none ↦ with_none f size n none (size n) refl
  | inr old ↦ inr (with_some f size n old (size n) refl)
]

-- ---- `largest`
int_max_reached : (x y : ℤ) → (int_max x y ≡ x) ⊎ (int_max x y ≡ y)
int_max_reached x y = by_lt_z x y (λ h. inr (omega (arith, ints, clamps))) (λ h. inl (omega (arith, ints, clamps)))

pub at_most_largest : (f : ℕ → ℤ) (n i : ℕ) → i < suc n → f i ≤ℤ largest f n
at_most_largest f zero i within = below_next (λ j. f j ≤ℤ f 0) 0 (λ j none. absurd (omega arith)) (omega (arith, ints)) i within
at_most_largest f (suc n) i within =
    below_next (λ j. f j ≤ℤ int_max (largest f n) (f (suc n))) (suc n)
    (λ j below. let h : f j ≤ℤ largest f n = at_most_largest f n j below in omega (arith, ints, clamps))
    (omega (arith, ints, clamps)) i within

pub largest_reached : (f : ℕ → ℤ) (n : ℕ) → (i : ℕ) × (i < suc n) × (largest f n ≡ f i)
largest_reached f zero = (0, omega arith, refl)
largest_reached f (suc n) =
    let before = largest_reached f n in
    elim (int_max_reached (largest f n) (f (suc n))) [
      | inl old ↦ (before.0, (let h : before.0 < suc n = before.1 in omega arith), old ∙ before.2)
      | inr new ↦ (suc n, omega arith, new)
    ]
