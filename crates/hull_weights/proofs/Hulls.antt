-- An average of averages is an average.
use Rattle.std.proofs.Common.{◌≡◌, ℕ, zero, suc, ◌<◌, List, [], ◌∷◌, ◌++◌, length, map, get_or, refl, sym, ap, subst, ◌∙◌, inl, inr, ⊎_elim, arith}
use Rattle.std.specs.Prelude.{ℤ, pos, ◌+ℤ◌, ◌*ℤ◌, ◌≤ℤ◌, ◌<ℤ◌, ◌⊎◌, ◌≤◌, ◌+◌, All, Contains}
use Rattle.std.proofs.lemmas.Bool.{cases_lt}
use Rattle.std.proofs.lemmas.Int.{ints}
use Rattle.std.proofs.lemmas.List.{get_or_default}
use Rattle.std.proofs.lemmas.List.Elements.{All-append, All-map, All-contains, Contains-get_or, Contains-append_left, Contains-append_cases, Contains-push}
use Rattle.exact_algebra.specs.Poly.{var, lit, ◌⊕◌, ◌⊗◌}
use Rattle.exact_algebra.proofs.Normal.{ring}
use Rattle.exact_algebra.proofs.Order.{product_above_zero, product_at_least_zero, positive_at_least_zero}
use Rattle.hull_weights.specs.Hull.{x_of, y_of, point_at, weighted, total_weight, IsInHull}
use Rattle.hull_weights.specs.SameHull.{AreIn, HaveSameHull}

-- all weights times a number
scaled : ℤ → List (ℕ × ℤ) → List (ℕ × ℤ)
scaled k items = map (λ item. (item.0, k *ℤ item.1)) items

weighted-append : (value : ℕ → ℤ) (xs ys : List (ℕ × ℤ)) → weighted value (xs ++ ys) ≡ weighted value xs +ℤ weighted value ys
weighted-append value [] ys = ring (weighted value ys ∷ []) (var 0) (lit (pos 0) ⊕ var 0) refl
weighted-append value (x ∷ xs) ys =
    ap (λ z. x.1 *ℤ value x.0 +ℤ z) (weighted-append value xs ys)
    ∙ ring (x.1 ∷ value x.0 ∷ weighted value xs ∷ weighted value ys ∷ []) (var 0 ⊗ var 1 ⊕ (var 2 ⊕ var 3)) ((var 0 ⊗ var 1 ⊕ var 2) ⊕ var 3) refl

weighted-scaled : (value : ℕ → ℤ) (k : ℤ) (xs : List (ℕ × ℤ)) → weighted value (scaled k xs) ≡ k *ℤ weighted value xs
unfolding scaled
weighted-scaled value k [] = ring (k ∷ []) (lit (pos 0)) (var 0 ⊗ lit (pos 0)) refl
weighted-scaled value k (x ∷ xs) =
    ap (λ z. k *ℤ x.1 *ℤ value x.0 +ℤ z) (weighted-scaled value k xs)
    ∙ ring (k ∷ x.1 ∷ value x.0 ∷ weighted value xs ∷ []) (var 0 ⊗ var 1 ⊗ var 2 ⊕ var 0 ⊗ var 3) (var 0 ⊗ (var 1 ⊗ var 2 ⊕ var 3)) refl

-- the points of items are averages themselves: the items over those that make them, all weights times a factor
record Expanded (xs ys : List (List ℤ)) (items : List (ℕ × ℤ)) : Type 0 where
  factor : ℤ
  new : List (ℕ × ℤ)
  factor_positive : pos 0 <ℤ factor
  within : All (λ item. item.0 < length ys) new
  not_negative : All (λ item. pos 0 ≤ℤ item.1) new
  total_is : total_weight new ≡ factor *ℤ total_weight items
  x_is : weighted (λ i. x_of (point_at ys i)) new ≡ factor *ℤ weighted (λ i. x_of (point_at xs i)) items
  y_is : weighted (λ i. y_of (point_at ys i)) new ≡ factor *ℤ weighted (λ i. y_of (point_at xs i)) items

-- one item more: the rest at total w, the item's own at f times its weight
joined : (value : ℕ → ℤ) (w f a : ℤ) (rest part : List (ℕ × ℤ)) (r p : ℤ) → weighted value rest ≡ f *ℤ r → weighted value part ≡ w *ℤ p
    → weighted value (scaled w rest ++ scaled (f *ℤ a) part) ≡ f *ℤ w *ℤ (a *ℤ p +ℤ r)
joined value w f a rest part r p e h =
    weighted-append value (scaled w rest) (scaled (f *ℤ a) part)
    ∙ ap (λ z. z +ℤ weighted value (scaled (f *ℤ a) part)) (weighted-scaled value w rest ∙ ap (λ z. w *ℤ z) e)
    ∙ ap (λ z. w *ℤ (f *ℤ r) +ℤ z) (weighted-scaled value (f *ℤ a) part ∙ ap (λ z. f *ℤ a *ℤ z) h)
    ∙ ring (w ∷ f ∷ a ∷ r ∷ p ∷ []) (var 0 ⊗ (var 1 ⊗ var 3) ⊕ var 1 ⊗ var 2 ⊗ (var 0 ⊗ var 4)) (var 1 ⊗ var 0 ⊗ (var 2 ⊗ var 4 ⊕ var 3)) refl

one : (w : ℤ) → w ≡ w *ℤ pos 1
one w = ring (w ∷ []) (var 0) (var 0 ⊗ lit (pos 1)) refl

within_scaled : (n : ℕ) (k : ℤ) (items : List (ℕ × ℤ)) → All (λ item. item.0 < n) items → All (λ item. item.0 < n) (scaled k items)
unfolding scaled
within_scaled n k items h = All-map (λ item. item.0 < n) (λ (item : ℕ × ℤ). (item.0, k *ℤ item.1)) items h

least_scaled : (k : ℤ) (items : List (ℕ × ℤ)) → pos 0 ≤ℤ k → All (λ item. pos 0 ≤ℤ item.1) items → All (λ item. pos 0 ≤ℤ item.1) (scaled k items)
unfolding scaled
least_scaled k items some h = All-map (λ item. pos 0 ≤ℤ item.1) (λ (item : ℕ × ℤ). (item.0, k *ℤ item.1)) items (λ i d below. product_at_least_zero k (get_or items i d).1 some (h i d below))

expanded : (xs ys : List (List ℤ)) → ((k : ℕ) → k < length xs → IsInHull ys (point_at xs k)) → (items : List (ℕ × ℤ)) → All (λ item. item.0 < length xs) items → All (λ item. pos 0 ≤ℤ item.1) items → Expanded xs ys items
expanded xs ys inside [] within least = record {
  factor = pos 1;
  new = [];
  factor_positive = omega (arith, ints);
  within = λ k d h. absurd (omega arith);
  not_negative = λ k d h. absurd (omega arith);
  total_is = refl;
  x_is = refl;
  y_is = refl;
}
expanded xs ys inside (item ∷ items) within least =
    let (part, average) = inside item.0 (within 0 item (omega arith)) in
    let rest = expanded xs ys inside items (λ k d h. within (suc k) d (omega arith)) (λ k d h. least (suc k) d (omega arith)) in
    let w : ℤ = total_weight part in
    let f : ℤ = rest.factor in
    let f_least : pos 0 ≤ℤ f = positive_at_least_zero f rest.factor_positive in
    record {
      factor = f *ℤ w;
      new = scaled w rest.new ++ scaled (f *ℤ item.1) part;
      factor_positive = product_above_zero f w rest.factor_positive average.total_positive;
      within = All-append (λ item. item.0 < length ys) (scaled w rest.new) (scaled (f *ℤ item.1) part) (within_scaled (length ys) w rest.new rest.within) (within_scaled (length ys) (f *ℤ item.1) part average.indices_within);
      not_negative = All-append (λ item. pos 0 ≤ℤ item.1) (scaled w rest.new) (scaled (f *ℤ item.1) part)
          (least_scaled w rest.new (positive_at_least_zero w average.total_positive) rest.not_negative)
          (least_scaled (f *ℤ item.1) part (product_at_least_zero f item.1 f_least (least 0 item (omega arith))) average.not_negative);
      total_is = joined (λ _. pos 1) w f item.1 rest.new part (total_weight items) (pos 1) rest.total_is (one w);
      x_is = joined (λ i. x_of (point_at ys i)) w f item.1 rest.new part (weighted (λ i. x_of (point_at xs i)) items) (x_of (point_at xs item.0)) rest.x_is average.average_x;
      y_is = joined (λ i. y_of (point_at ys i)) w f item.1 rest.new part (weighted (λ i. y_of (point_at xs i)) items) (y_of (point_at xs item.0)) rest.y_is average.average_y;
    }

times_in : (f t x a b : ℤ) → a ≡ f *ℤ b → b ≡ t *ℤ x → (s : ℤ) → s ≡ f *ℤ t → a ≡ s *ℤ x
times_in f t x a b e h s k =
    e ∙ ap (λ z. f *ℤ z) h ∙ ring (f ∷ t ∷ x ∷ []) (var 0 ⊗ (var 1 ⊗ var 2)) (var 0 ⊗ var 1 ⊗ var 2) refl ∙ ap (λ z. z *ℤ x) (sym k)

pub in_wider : (xs ys : List (List ℤ)) → AreIn xs ys → (t : List ℤ) → IsInHull xs t → IsInHull ys t
in_wider xs ys inside t (items, average) =
    let all = expanded xs ys (λ k below. inside (point_at xs k) (Contains-get_or xs k [] below)) items average.indices_within average.not_negative in (
      all.new,
      record {
        indices_within = all.within;
        not_negative = all.not_negative;
        total_positive = subst (λ z. pos 0 <ℤ z) (sym all.total_is) (product_above_zero all.factor (total_weight items) all.factor_positive average.total_positive);
        average_x = times_in all.factor (total_weight items) (x_of t) _ _ all.x_is average.average_x _ all.total_is;
        average_y = times_in all.factor (total_weight items) (y_of t) _ _ all.y_is average.average_y _ all.total_is;
      },
    )

pub same_hull : (xs ys : List (List ℤ)) → HaveSameHull xs ys → (t : List ℤ) → (IsInHull xs t → IsInHull ys t) × (IsInHull ys t → IsInHull xs t)
same_hull xs ys same t = (in_wider xs ys same.forth t, in_wider ys xs same.back t)

-- a point of the list is in its hull
itself : (z : ℤ) → pos 1 *ℤ z +ℤ pos 0 ≡ (pos 1 *ℤ pos 1 +ℤ pos 0) *ℤ z
itself z = ring (z ∷ []) (lit (pos 1) ⊗ var 0 ⊕ lit (pos 0)) ((lit (pos 1) ⊗ lit (pos 1) ⊕ lit (pos 0)) ⊗ var 0) refl

at_index : (xs : List (List ℤ)) (k : ℕ) → k < length xs → IsInHull xs (point_at xs k)
at_index xs k below = (
  (k, pos 1) ∷ [],
  record {
    indices_within = one_item (λ item. item.0 < length xs) (k, pos 1) below;
    not_negative = one_item (λ item. pos 0 ≤ℤ item.1) (k, pos 1) (omega (arith, ints));
    total_positive = omega (arith, ints);
    average_x = itself (x_of (point_at xs k));
    average_y = itself (y_of (point_at xs k));
  },
)
  where
    one_item : (P : ℕ × ℤ → Type 0) (item : ℕ × ℤ) → P item → All P (item ∷ [])
    one_item P item h zero d below = h
    one_item P item h (suc i) d below = absurd (omega arith)

pub contained_in : (xs : List (List ℤ)) → AreIn xs xs
contained_in xs v (k, below, is) = subst (IsInHull xs) (get_or_default xs k [] v below ∙ is) (at_index xs k below)

-- ---- one point more
pub more : (xs : List (List ℤ)) (p : List ℤ) → AreIn xs (xs ++ p ∷ [])
more xs p v there = contained_in (xs ++ p ∷ []) v (Contains-append_left xs (p ∷ []) v there)

pub latest : (xs : List (List ℤ)) (p : List ℤ) → IsInHull (xs ++ p ∷ []) p
latest xs p = contained_in (xs ++ p ∷ []) p (Contains-push xs p)

pub is_single : (p v : List ℤ) → Contains (p ∷ []) v → v ≡ p
is_single p v (zero, below, is) = sym is
is_single p v (suc k, below, is) = absurd (omega arith)

pub only_more : (xs : List (List ℤ)) (p v : List ℤ) → Contains (xs ++ p ∷ []) v → Contains xs v ⊎ (v ≡ p)
only_more xs p v there =
    ⊎_elim
    (λ (h : Contains xs v). inl h)
    (λ (h : Contains (p ∷ []) v). inr (is_single p v h))
    (Contains-append_cases xs (p ∷ []) v there)

pub all_contained : (P : List ℤ → Type 0) (xs : List (List ℤ)) → ((v : List ℤ) → Contains xs v → P v) → All P xs
all_contained P xs h k d below = h (get_or xs k d) (Contains-get_or xs k d below)

-- ---- the last point goes, or comes to the front
pub without_last : (xs : List (List ℤ)) (p : List ℤ) → IsInHull xs p → HaveSameHull xs (xs ++ p ∷ [])
without_last xs p inside = record {
  forth = more xs p;
  back = λ v there.
      ⊎_elim
      (λ (h : Contains xs v). contained_in xs v h)
      (λ (e : v ≡ p). subst (IsInHull xs) (sym e) inside)
      (only_more xs p v there);
}

pub last_first : (xs : List (List ℤ)) (p : List ℤ) → HaveSameHull (p ∷ xs) (xs ++ p ∷ [])
last_first xs p = record {
  forth = λ v there. contained_in (xs ++ p ∷ []) v (forward v there);
  back = λ v there. contained_in (p ∷ xs) v (backward v (only_more xs p v there));
}
  where
    forward : (v : List ℤ) → Contains (p ∷ xs) v → Contains (xs ++ p ∷ []) v
    forward v (zero, below, is) = subst (Contains (xs ++ p ∷ [])) is (Contains-push xs p)
    forward v (suc k, below, is) = Contains-append_left xs (p ∷ []) v (k, omega arith, is)

    backward : (v : List ℤ) → Contains xs v ⊎ (v ≡ p) → Contains (p ∷ xs) v
    backward v (inl (k, below, is)) = (suc k, omega arith, is)
    backward v (inr e) = (0, omega arith, sym e)

pub same_twice : (xs ys zs : List (List ℤ)) → HaveSameHull xs ys → HaveSameHull ys zs → HaveSameHull xs zs
same_twice xs ys zs first second = record {
  forth = λ v there. in_wider ys zs second.forth v (first.forth v there);
  back = λ v there. in_wider ys xs first.back v (second.back v there);
}

pub same_self : (xs : List (List ℤ)) → HaveSameHull xs xs
same_self xs = record { forth = contained_in xs; back = contained_in xs }

pub all_in : (P : List ℤ → Type 0) (xs ys : List (List ℤ)) → ((v : List ℤ) → Contains xs v → Contains ys v) → All P ys → All P xs
all_in P xs ys within h = all_contained P xs (λ v there. All-contains P ys v h (within v there))

pub all_front : (P : List ℤ → Type 0) (xs : List (List ℤ)) (p : List ℤ) → All P (xs ++ p ∷ []) → All P xs
all_front P xs p h = all_in P xs (xs ++ p ∷ []) (λ v there. Contains-append_left xs (p ∷ []) v there) h

pub last_of : (P : List ℤ → Type 0) (xs : List (List ℤ)) (p : List ℤ) → All P (xs ++ p ∷ []) → P p
last_of P xs p h = All-contains P (xs ++ p ∷ []) p h (Contains-push xs p)

-- ---- points that are added one by one
pub one_more_done : (kept new points : List (List ℤ)) (i : ℕ) → AreIn kept new → ((j : ℕ) → j < i → IsInHull kept (point_at points j)) → IsInHull new (point_at points i) → (j : ℕ) → j < i + 1 → IsInHull new (point_at points j)
one_more_done kept new points i wider done here j below =
    ⊎_elim
    (λ (lt : j < i). in_wider kept new wider (point_at points j) (done j lt))
    (λ (ge : i ≤ j). let e : i ≡ j = omega arith in subst (λ (k : ℕ). IsInHull new (point_at points k)) e here)
    (cases_lt j i)

pub one_more_from : (old new points : List (List ℤ)) (p : List ℤ) → ((v : List ℤ) → Contains new v → Contains old v ⊎ (v ≡ p)) → ((v : List ℤ) → Contains old v → Contains points v) → Contains points p → (v : List ℤ) → Contains new v → Contains points v
one_more_from old new points p only before there v h =
    ⊎_elim (λ (k : Contains old v). before v k) (λ (e : v ≡ p). subst (Contains points) (sym e) there) (only v h)

pub all_done : (kept points : List (List ℤ)) → ((v : List ℤ) → Contains kept v → Contains points v) → ((j : ℕ) → j < length points → IsInHull kept (point_at points j)) → HaveSameHull kept points
all_done kept points within done = record {
  forth = λ v there. contained_in points v (within v there);
  back = from_index;
}
  where
    from_index : (v : List ℤ) → Contains points v → IsInHull kept v
    from_index v (k, below, is) = subst (IsInHull kept) (get_or_default points k [] v below ∙ is) (done k below)
