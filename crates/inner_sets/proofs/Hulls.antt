-- Hulls: of more points, and of small points.
use Rattle.std.proofs.Common.{◌≡◌, ℕ, ◌<◌, ◌≤◌, ◌^◌, List, [], ◌∷◌, length, map, get_or, refl, sym, ap, subst, ◌∙◌, arith}
use Rattle.std.specs.Prelude.{ℤ, pos, negsuc, neg_ℤ, ◌+ℤ◌, ◌*ℤ◌, ◌≤ℤ◌, ◌<ℤ◌, unsigned_abs, All, Contains}
use Rattle.std.proofs.lemmas.Int.{ints, by_lt_z}
use Rattle.std.proofs.lemmas.List.{length-map, get_or-map, get_or_default}
use Rattle.std.proofs.lemmas.List.Elements.{All-nil, All-cons, All-head, All-tail, Contains-get_or}
use Rattle.exact_algebra.specs.Poly.{var, lit, ◌⊕◌, ◌⊗◌}
use Rattle.exact_algebra.proofs.Normal.{ring}
use Rattle.exact_algebra.proofs.Order.{abs_within, within_abs}
use Rattle.hull_weights.specs.Hull.{x_of, y_of, point_at, weighted, total_weight, IsInHull, IsSmallPoint}
use Rattle.hull_weights.proofs.Averages.{separates-excludes}

-- each point of the one list is a point of the other
abbrev pub Places : List (List ℤ) → List (List ℤ) → Type 0
Places xs ys = (k : ℕ) → k < length xs → (j : ℕ) × (j < length ys) × (point_at ys j ≡ point_at xs k)

-- the same average over the other list
record Moved (xs ys : List (List ℤ)) (items : List (ℕ × ℤ)) : Type 0 where
  others : List (ℕ × ℤ)
  within : All (λ (item : ℕ × ℤ). item.0 < length ys) others
  not_negative : All (λ (item : ℕ × ℤ). pos 0 ≤ℤ item.1) others
  total : total_weight others ≡ total_weight items
  sum_x : weighted (λ i. x_of (point_at ys i)) others ≡ weighted (λ i. x_of (point_at xs i)) items
  sum_y : weighted (λ i. y_of (point_at ys i)) others ≡ weighted (λ i. y_of (point_at xs i)) items

move : (xs ys : List (List ℤ)) → Places xs ys → (items : List (ℕ × ℤ)) → All (λ (item : ℕ × ℤ). item.0 < length xs) items → All (λ (item : ℕ × ℤ). pos 0 ≤ℤ item.1) items → Moved xs ys items
move xs ys f [] within least = record {
  others = [];
  within = All-nil (λ (item : ℕ × ℤ). item.0 < length ys);
  not_negative = All-nil (λ (item : ℕ × ℤ). pos 0 ≤ℤ item.1);
  total = refl;
  sum_x = refl;
  sum_y = refl;
}
move xs ys f (item ∷ items) within least =
    let rest = move xs ys f items (All-tail (λ (item : ℕ × ℤ). item.0 < length xs) item items within) (All-tail (λ (item : ℕ × ℤ). pos 0 ≤ℤ item.1) item items least) in
    let here = f item.0 (All-head (λ (item : ℕ × ℤ). item.0 < length xs) item items within) in
    record {
      others = (here.0, item.1) ∷ rest.others;
      within = All-cons (λ (item : ℕ × ℤ). item.0 < length ys) (here.0, item.1) rest.others here.1 rest.within;
      not_negative = All-cons (λ (item : ℕ × ℤ). pos 0 ≤ℤ item.1) (here.0, item.1) rest.others (All-head (λ (item : ℕ × ℤ). pos 0 ≤ℤ item.1) item items least) rest.not_negative;
      total = ap (λ (z : ℤ). item.1 *ℤ pos 1 +ℤ z) rest.total;
      sum_x = ap (λ (p : List ℤ). item.1 *ℤ x_of p +ℤ weighted (λ i. x_of (point_at ys i)) rest.others) here.2 ∙ ap (λ (z : ℤ). item.1 *ℤ x_of (point_at xs item.0) +ℤ z) rest.sum_x;
      sum_y = ap (λ (p : List ℤ). item.1 *ℤ y_of p +ℤ weighted (λ i. y_of (point_at ys i)) rest.others) here.2 ∙ ap (λ (z : ℤ). item.1 *ℤ y_of (point_at xs item.0) +ℤ z) rest.sum_y;
    }

pub hull_within : (xs ys : List (List ℤ)) (t : List ℤ) → Places xs ys → IsInHull xs t → IsInHull ys t
hull_within xs ys t f (items, average) =
    let m = move xs ys f items average.indices_within average.not_negative in
    let same : total_weight items ≡ total_weight m.others = sym m.total in (
      m.others,
      record {
        indices_within = m.within;
        not_negative = m.not_negative;
        total_positive = subst (λ (z : ℤ). pos 0 <ℤ z) same average.total_positive;
        average_x = m.sum_x ∙ (average.average_x ∙ ap (λ (z : ℤ). z *ℤ x_of t) same);
        average_y = m.sum_y ∙ (average.average_y ∙ ap (λ (z : ℤ). z *ℤ y_of t) same);
      },
    )

-- the images of the points of a larger list
pub map_places : (f : List ℤ → List ℤ) (xs ys : List (List ℤ)) → ((v : List ℤ) → Contains xs v → Contains ys v) → Places (map f xs) (map f ys)
map_places f xs ys more k below =
    let inside : k < length xs = omega (arith, length-map xs f) in
    let there : Contains ys (get_or xs k []) = more (get_or xs k []) (Contains-get_or xs k [] inside) in (
      there.0,
      omega (arith, length-map ys f, there.1),
      get_or-map f ys there.0 [] [] there.1 ∙ (ap f (get_or_default ys there.0 [] (get_or xs k []) there.1 ∙ there.2) ∙ sym (get_or-map f xs k [] [] inside)),
    )

-- ---- no average of small points is large
one_first : (x y : ℤ) → pos 1 *ℤ x +ℤ pos 0 *ℤ y ≡ x
one_first x y = ring (x ∷ y ∷ []) (lit (pos 1) ⊗ var 0 ⊕ lit (pos 0) ⊗ var 1) (var 0) refl

one_second : (x y : ℤ) → pos 0 *ℤ x +ℤ pos 1 *ℤ y ≡ y
one_second x y = ring (x ∷ y ∷ []) (lit (pos 0) ⊗ var 0 ⊕ lit (pos 1) ⊗ var 1) (var 1) refl

less_first : (x y : ℤ) → negsuc 0 *ℤ x +ℤ pos 0 *ℤ y ≡ neg_ℤ x
less_first x y = ring (x ∷ y ∷ []) (lit (negsuc 0) ⊗ var 0 ⊕ lit (pos 0) ⊗ var 1) (lit (negsuc 0) ⊗ var 0) refl ∙ turned x
  where
    turned : (x : ℤ) → negsuc 0 *ℤ x ≡ neg_ℤ x
    turned x = omega (arith, ints)

less_second : (x y : ℤ) → pos 0 *ℤ x +ℤ negsuc 0 *ℤ y ≡ neg_ℤ y
less_second x y = ring (x ∷ y ∷ []) (lit (pos 0) ⊗ var 0 ⊕ lit (negsuc 0) ⊗ var 1) (lit (negsuc 0) ⊗ var 1) refl ∙ turned y
  where
    turned : (x : ℤ) → negsuc 0 *ℤ x ≡ neg_ℤ x
    turned x = omega (arith, ints)

below_along : (a b x y : ℤ) → x ≡ a → y ≡ b → a <ℤ b → x <ℤ y
below_along a b x y e f h = omega (arith, ints, e, f, h)

above_bound : (m : ℕ) (p t : ℤ) → unsigned_abs p ≤ m → pos m <ℤ t → p <ℤ t
above_bound m p t h k = omega (arith, ints, (within_abs p m h).1)

below_bound : (m : ℕ) (p t : ℤ) → unsigned_abs p ≤ m → t <ℤ neg_ℤ (pos m) → neg_ℤ p <ℤ neg_ℤ t
below_bound m p t h k = omega (arith, ints, (within_abs p m h).0)

part_small : (m : ℕ) (t : ℤ) → (pos m <ℤ t → ⊥) → (t <ℤ neg_ℤ (pos m) → ⊥) → unsigned_abs t ≤ m
part_small m t high low = abs_within t m (by_lt_z t (neg_ℤ (pos m)) (λ h. absurd (low h)) (λ h. h)) (by_lt_z (pos m) t (λ h. absurd (high h)) (λ h. h))

module _ (points : List (List ℤ)) (t : List ℤ) (small : All IsSmallPoint points) (inside : IsInHull points t) where
  pub hull_small : IsSmallPoint t
  hull_small = record {
    x_small = part_small (2 ^ 40) (x_of t)
        (λ h. separates-excludes points t (pos 1 ∷ pos 0 ∷ [])
        (λ k below. below_along (x_of (point_at points k)) (x_of t) _ _ (one_first (x_of (point_at points k)) (y_of (point_at points k))) (one_first (x_of t) (y_of t)) (above_bound (2 ^ 40) (x_of (point_at points k)) (x_of t) (small k [] below).x_small h))
        inside)
        (λ h. separates-excludes points t (negsuc 0 ∷ pos 0 ∷ [])
        (λ k below. below_along (neg_ℤ (x_of (point_at points k))) (neg_ℤ (x_of t)) _ _ (less_first (x_of (point_at points k)) (y_of (point_at points k))) (less_first (x_of t) (y_of t)) (below_bound (2 ^ 40) (x_of (point_at points k)) (x_of t) (small k [] below).x_small h))
        inside);
    y_small = part_small (2 ^ 40) (y_of t)
        (λ h. separates-excludes points t (pos 0 ∷ pos 1 ∷ [])
        (λ k below. below_along (y_of (point_at points k)) (y_of t) _ _ (one_second (x_of (point_at points k)) (y_of (point_at points k))) (one_second (x_of t) (y_of t)) (above_bound (2 ^ 40) (y_of (point_at points k)) (y_of t) (small k [] below).y_small h))
        inside)
        (λ h. separates-excludes points t (pos 0 ∷ negsuc 0 ∷ [])
        (λ k below. below_along (neg_ℤ (y_of (point_at points k))) (neg_ℤ (y_of t)) _ _ (less_second (x_of (point_at points k)) (y_of (point_at points k))) (less_second (x_of t) (y_of t)) (below_bound (2 ^ 40) (y_of (point_at points k)) (y_of t) (small k [] below).y_small h))
        inside);
  }
