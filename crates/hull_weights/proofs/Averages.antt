-- Averages of points, and lines that leave them out.
use Rattle.std.proofs.Common.{◌≡◌, ℕ, zero, suc, ◌+◌, ◌<◌, ◌≤◌, List, [], ◌∷◌, length, get_or, refl, sym, ap, subst, ◌∙◌, inl, inr, arith}
use Rattle.std.specs.Prelude.{ℤ, pos, ◌+ℤ◌, ◌-ℤ◌, ◌*ℤ◌, ◌≤ℤ◌, ◌<ℤ◌, All}
use Rattle.std.proofs.lemmas.Int.{ints}
use Rattle.exact_algebra.specs.Poly.{var, lit, ◌⊕◌, ◌⊖◌, ◌⊗◌}
use Rattle.exact_algebra.proofs.Normal.{ring, equal_if_apart_by_nought}
use Rattle.exact_algebra.proofs.Order.{at_most_by, product_at_least_zero, same_from_times, sum_at_least_zero}
use Rattle.hull_weights.specs.Hull.{x_of, y_of, dot, point_at, weighted, total_weight, IsInHull, Separates, IsTriangle}
use Rattle.hull_weights.specs.declared.arrow.Arrow.{Arrow}
use Rattle.hull_weights.specs.declared.cone.Cone.{Cone}
use Rattle.hull_weights.specs.declared.cone.Cone.TheVariants.{Empty, Ray, Wedge}
use Rattle.hull_weights.specs.declared.cone.Balance.{Balance}
use Rattle.hull_weights.specs.Cone.{EachArrow, IsArrow, IsPartOf, IsKnown, IsBalance, IsInCone, Spans}
use Rattle.hull_weights.specs.LowestTerms.{IsLowestTerms}
use Rattle.hull_weights.proofs.Plane.{factor_positive}

-- ---- a target that is separated is no average
gap_of : (a b : ℤ) → a <ℤ b → pos 0 ≤ℤ (b -ℤ a -ℤ pos 1)
gap_of a b h = omega (arith, ints)

room_of : (a b : ℤ) → a ≤ℤ b → pos 0 ≤ℤ (b -ℤ a)
room_of a b h = omega (arith, ints)

-- one point more, by its weight w: it adds at least w to what the target's product exceeds the points' by
step : (w total n nx ny px py sx sy : ℤ) → pos 0 ≤ℤ w → (nx *ℤ px +ℤ ny *ℤ py) <ℤ n → total ≤ℤ (total *ℤ n -ℤ (nx *ℤ sx +ℤ ny *ℤ sy)) → (w *ℤ pos 1 +ℤ total) ≤ℤ ((w *ℤ pos 1 +ℤ total) *ℤ n -ℤ (nx *ℤ (w *ℤ px +ℤ sx) +ℤ ny *ℤ (w *ℤ py +ℤ sy)))
step w total n nx ny px py sx sy w_least beyond rest =
    at_most_by (w ∷ total ∷ n ∷ nx ∷ ny ∷ px ∷ py ∷ sx ∷ sy ∷ [])
    (var 0 ⊗ lit (pos 1) ⊕ var 1)
    ((var 0 ⊗ lit (pos 1) ⊕ var 1) ⊗ var 2 ⊖ (var 3 ⊗ (var 0 ⊗ var 5 ⊕ var 7) ⊕ var 4 ⊗ (var 0 ⊗ var 6 ⊕ var 8)))
    ((var 1 ⊗ var 2 ⊖ (var 3 ⊗ var 7 ⊕ var 4 ⊗ var 8) ⊖ var 1) ⊕ var 0 ⊗ (var 2 ⊖ (var 3 ⊗ var 5 ⊕ var 4 ⊗ var 6) ⊖ lit (pos 1)))
    refl
    (sum_at_least_zero _ _ (room_of _ _ rest) (product_at_least_zero w (n -ℤ (nx *ℤ px +ℤ ny *ℤ py) -ℤ pos 1) w_least (gap_of _ _ beyond)))

exceeds : (points : List (List ℤ)) (target normal : List ℤ) (items : List (ℕ × ℤ)) → Separates points target normal → All (λ item. item.0 < length points) items → All (λ item. pos 0 ≤ℤ item.1) items
    → total_weight items ≤ℤ (total_weight items *ℤ dot normal target -ℤ (x_of normal *ℤ weighted (λ i. x_of (point_at points i)) items +ℤ y_of normal *ℤ weighted (λ i. y_of (point_at points i)) items))
exceeds points target normal [] separated within least =
    at_most_by (dot normal target ∷ x_of normal ∷ y_of normal ∷ []) (lit (pos 0)) (lit (pos 0) ⊗ var 0 ⊖ (var 1 ⊗ lit (pos 0) ⊕ var 2 ⊗ lit (pos 0))) (lit (pos 0)) refl (omega (arith, ints))
exceeds points target normal (item ∷ items) separated within least =
    step item.1 (total_weight items) (dot normal target) (x_of normal) (y_of normal) (x_of (point_at points item.0)) (y_of (point_at points item.0))
    (weighted (λ i. x_of (point_at points i)) items) (weighted (λ i. y_of (point_at points i)) items)
    (least 0 item (omega arith)) (separated item.0 (within 0 item (omega arith)))
    (exceeds points target normal items separated (λ k d h. within (suc k) d (omega arith)) (λ k d h. least (suc k) d (omega arith)))

nothing_left : (total nx ny tx ty : ℤ) → total *ℤ (nx *ℤ tx +ℤ ny *ℤ ty) -ℤ (nx *ℤ (total *ℤ tx) +ℤ ny *ℤ (total *ℤ ty)) ≡ pos 0
nothing_left total nx ny tx ty =
    ring (total ∷ nx ∷ ny ∷ tx ∷ ty ∷ [])
    (var 0 ⊗ (var 1 ⊗ var 3 ⊕ var 2 ⊗ var 4) ⊖ (var 1 ⊗ (var 0 ⊗ var 3) ⊕ var 2 ⊗ (var 0 ⊗ var 4)))
    (lit (pos 0)) refl

never : (total z : ℤ) → pos 0 <ℤ total → total ≤ℤ z → z ≡ pos 0 → ⊥
never total z h k e = omega (arith, ints)

pub separates-excludes : (points : List (List ℤ)) (target normal : List ℤ) → Separates points target normal → IsInHull points target → ⊥
separates-excludes points target normal separated (items, average) =
    never (total_weight items) _ average.total_positive
    (exceeds points target normal items separated average.indices_within average.not_negative)
    (ap (λ z. total_weight items *ℤ dot normal target -ℤ (x_of normal *ℤ z +ℤ y_of normal *ℤ weighted (λ i. y_of (point_at points i)) items)) average.average_x
    ∙ ap (λ z. total_weight items *ℤ dot normal target -ℤ (x_of normal *ℤ (total_weight items *ℤ x_of target) +ℤ y_of normal *ℤ z)) average.average_y
    ∙ nothing_left (total_weight items) (x_of normal) (y_of normal) (x_of target) (y_of target))

-- ---- arrows that cancel make an average
weighted-difference : (value : ℕ → ℤ) (t : ℤ) (items : List (ℕ × ℤ)) → weighted (λ i. value i -ℤ t) items ≡ weighted value items -ℤ total_weight items *ℤ t
weighted-difference value t [] = ring (t ∷ []) (lit (pos 0)) (lit (pos 0) ⊖ lit (pos 0) ⊗ var 0) refl
weighted-difference value t (item ∷ items) =
    ap (λ z. item.1 *ℤ (value item.0 -ℤ t) +ℤ z) (weighted-difference value t items)
    ∙ ring (item.1 ∷ value item.0 ∷ t ∷ weighted value items ∷ total_weight items ∷ [])
    (var 0 ⊗ (var 1 ⊖ var 2) ⊕ (var 3 ⊖ var 4 ⊗ var 2))
    (var 0 ⊗ var 1 ⊕ var 3 ⊖ (var 0 ⊗ lit (pos 1) ⊕ var 4) ⊗ var 2)
    refl

average_from_nought : (value : ℕ → ℤ) (t : ℤ) (items : List (ℕ × ℤ)) → weighted (λ i. value i -ℤ t) items ≡ pos 0 → weighted value items ≡ total_weight items *ℤ t
average_from_nought value t items e = equal_if_apart_by_nought _ _ (sym (weighted-difference value t items) ∙ e)

pos_above : (n : ℕ) → 0 < n → pos 0 <ℤ pos n
pos_above n h = omega (arith, ints)

nought_from_times : (n : ℕ) (z : ℤ) → 0 < n → pos n *ℤ z ≡ pos 0 → z ≡ pos 0
nought_from_times n z h e =
    same_from_times (pos n) z (pos 0) (pos_above n h) (e ∙ ring (pos n ∷ []) (lit (pos 0)) (var 0 ⊗ lit (pos 0)) refl)

pub each : (P Q : Arrow → Type 0) (cone : Cone) → ((arrow : Arrow) → P arrow → Q arrow) → EachArrow P cone → EachArrow Q cone
each P Q Empty f h = tt
each P Q (Ray only) f h = f only h
each P Q (Wedge right left) f h = (f right h.0, f left h.1)

part_is : (P : Arrow → Type 0) (cone : Cone) (arrow : Arrow) → EachArrow P cone → IsPartOf cone arrow → P arrow
part_is P Empty arrow h k = absurd k
part_is P (Ray only) arrow h k = subst P (sym k) h
part_is P (Wedge right left) arrow h k = elim k [ inl e ↦ subst P (sym e) h.0 | inr e ↦ subst P (sym e) h.1 ]

pub known_is : (P : Arrow → Type 0) (cone : Cone) (latest arrow : Arrow) → EachArrow P cone → P latest → IsKnown cone latest arrow → P arrow
known_is P cone latest arrow h l k = elim k [ inl e ↦ subst P (sym e) l | inr part ↦ part_is P cone arrow h part ]

rewritten : (a b c x y z x' y' z' : ℤ) → x ≡ x' → y ≡ y' → z ≡ z' → a *ℤ x +ℤ b *ℤ y +ℤ c *ℤ z ≡ pos 0 → a *ℤ x' +ℤ b *ℤ y' +ℤ c *ℤ z' ≡ pos 0
rewritten a b c x y z x' y' z' e f g sum =
    ap (λ n. a *ℤ n +ℤ b *ℤ y' +ℤ c *ℤ z') (sym e) ∙ ap (λ n. a *ℤ x +ℤ b *ℤ n +ℤ c *ℤ z') (sym f) ∙ ap (λ n. a *ℤ x +ℤ b *ℤ y +ℤ c *ℤ n) (sym g) ∙ sum

total_above : (a b c : ℕ) → 0 < c → pos 0 <ℤ (pos a *ℤ pos 1 +ℤ pos b *ℤ pos 1 +ℤ pos c *ℤ pos 1)
total_above a b c h = omega (arith, ints)

earlier_within : (points : List (List ℤ)) (target : List ℤ) (seen more : ℕ) (arrow : Arrow) → seen ≤ more → IsArrow points target seen arrow → IsArrow points target more arrow
earlier_within points target seen more arrow h is = record { seen_already = omega (arith, is.seen_already); x_is = is.x_is; y_is = is.y_is }

pub triangle_from_balance : (points : List (List ℤ)) (target : List ℤ) (seen : ℕ) (cone : Cone) (latest : Arrow) (balance : Balance) (items : List (ℕ × ℤ)) → seen < length points → Spans points target seen cone → IsArrow points target (seen + 1) latest → IsBalance cone latest balance
    → IsLowestTerms (balance.first.index, balance.first_weight) (balance.second.index, balance.second_weight) (balance.last.index, balance.last_weight) items → IsTriangle points target items
triangle_from_balance points target seen cone latest balance items within spans arrow cancels lowest =
    let P = IsArrow points target (seen + 1) in
    let arrows : EachArrow P cone = each (IsArrow points target seen) P cone (λ a h. earlier_within points target seen (seen + 1) a (omega arith) h) spans.arrows in
    let first : P balance.first = known_is P cone latest balance.first arrows arrow cancels.first_known in
    let second : P balance.second = known_is P cone latest balance.second arrows arrow cancels.second_known in
    let last : P balance.last = subst P (sym cancels.last_is) arrow in
    let a = pos balance.first_weight in
    let b = pos balance.second_weight in
    let c = pos balance.last_weight in
    let sum_x : pos lowest.factor *ℤ weighted (λ i. x_of (point_at points i) -ℤ x_of target) items ≡ pos 0 =
    lowest.proportional (λ i. x_of (point_at points i) -ℤ x_of target) ∙ rewritten a b c _ _ _ _ _ _ first.x_is second.x_is last.x_is cancels.cancels_x in
    let sum_y : pos lowest.factor *ℤ weighted (λ i. y_of (point_at points i) -ℤ y_of target) items ≡ pos 0 =
    lowest.proportional (λ i. y_of (point_at points i) -ℤ y_of target) ∙ rewritten a b c _ _ _ _ _ _ first.y_is second.y_is last.y_is cancels.cancels_y in
    let last_within : balance.last.index < length points = omega (arith, last.seen_already) in
    record {
      average = record {
        indices_within = λ k d h. let later : (get_or items k d).0 ≤ balance.last.index = lowest.none_later k d h in omega arith;
        not_negative = λ k d h. let above : pos 0 <ℤ (get_or items k d).1 = lowest.weights_positive k d h in omega (arith, ints);
        total_positive = factor_positive (pos lowest.factor) (total_weight items) _ (pos_above lowest.factor lowest.factor_positive) (lowest.proportional (λ _. pos 1))
            (total_above balance.first_weight balance.second_weight balance.last_weight cancels.ordered.last_counts);
        average_x = average_from_nought (λ i. x_of (point_at points i)) (x_of target) items (nought_from_times lowest.factor _ lowest.factor_positive sum_x);
        average_y = average_from_nought (λ i. y_of (point_at points i)) (y_of target) items (nought_from_times lowest.factor _ lowest.factor_positive sum_y);
      };
      at_most_three = lowest.at_most_three;
      ascending = lowest.ascending;
      weights_positive = lowest.weights_positive;
      weights_small = lowest.weights_small;
      no_common_divisor = lowest.no_common_divisor;
    }

three_items : (P : ℕ × ℤ → Type 0) (a b c : ℕ × ℤ) → P a → P b → P c → All P (a ∷ b ∷ c ∷ [])
three_items P a b c h k l zero d below = h
three_items P a b c h k l (suc zero) d below = k
three_items P a b c h k l (suc (suc zero)) d below = l
three_items P a b c h k l (suc (suc (suc i))) d below = absurd (omega arith)

listed : (a b c x y z : ℤ) → a *ℤ x +ℤ b *ℤ y +ℤ c *ℤ z ≡ pos 0 → a *ℤ x +ℤ (b *ℤ y +ℤ (c *ℤ z +ℤ pos 0)) ≡ pos 0
listed a b c x y z e =
    ring (a ∷ b ∷ c ∷ x ∷ y ∷ z ∷ []) (var 0 ⊗ var 3 ⊕ (var 1 ⊗ var 4 ⊕ (var 2 ⊗ var 5 ⊕ lit (pos 0)))) (var 0 ⊗ var 3 ⊕ var 1 ⊗ var 4 ⊕ var 2 ⊗ var 5) refl ∙ e

listed_above : (a b c : ℕ) → 0 < c → pos 0 <ℤ (pos a *ℤ pos 1 +ℤ (pos b *ℤ pos 1 +ℤ (pos c *ℤ pos 1 +ℤ pos 0)))
listed_above a b c h = omega (arith, ints)

not_below : (n : ℕ) → pos 0 ≤ℤ pos n
not_below n = omega (arith, ints)

-- the same without the shortest form
pub hull_from_balance : (points : List (List ℤ)) (target : List ℤ) (seen : ℕ) (cone : Cone) (latest : Arrow) (balance : Balance) → seen < length points → Spans points target seen cone → IsArrow points target (seen + 1) latest → IsBalance cone latest balance → IsInHull points target
hull_from_balance points target seen cone latest balance within spans arrow cancels =
    let P = IsArrow points target (seen + 1) in
    let arrows : EachArrow P cone = each (IsArrow points target seen) P cone (λ a h. earlier_within points target seen (seen + 1) a (omega arith) h) spans.arrows in
    let first : P balance.first = known_is P cone latest balance.first arrows arrow cancels.first_known in
    let second : P balance.second = known_is P cone latest balance.second arrows arrow cancels.second_known in
    let last : P balance.last = subst P (sym cancels.last_is) arrow in
    let a = pos balance.first_weight in
    let b = pos balance.second_weight in
    let c = pos balance.last_weight in
    let items : List (ℕ × ℤ) = (balance.first.index, a) ∷ (balance.second.index, b) ∷ (balance.last.index, c) ∷ [] in (
      items,
      record {
        indices_within = three_items (λ item. item.0 < length points) (balance.first.index, a) (balance.second.index, b) (balance.last.index, c)
            (omega (arith, first.seen_already)) (omega (arith, second.seen_already)) (omega (arith, last.seen_already));
        not_negative = three_items (λ item. pos 0 ≤ℤ item.1) (balance.first.index, a) (balance.second.index, b) (balance.last.index, c)
            (not_below balance.first_weight) (not_below balance.second_weight) (not_below balance.last_weight);
        total_positive = listed_above balance.first_weight balance.second_weight balance.last_weight cancels.ordered.last_counts;
        average_x = average_from_nought (λ i. x_of (point_at points i)) (x_of target) items
            (listed a b c _ _ _ (rewritten a b c _ _ _ _ _ _ first.x_is second.x_is last.x_is cancels.cancels_x));
        average_y = average_from_nought (λ i. y_of (point_at points i)) (y_of target) items
            (listed a b c _ _ _ (rewritten a b c _ _ _ _ _ _ first.y_is second.y_is last.y_is cancels.cancels_y));
      },
    )

-- ---- a line beside the cone
line_apart : (nx ny px py tx ty : ℤ) → (nx *ℤ (px -ℤ tx) +ℤ ny *ℤ (py -ℤ ty)) <ℤ pos 0 → (nx *ℤ px +ℤ ny *ℤ py) <ℤ (nx *ℤ tx +ℤ ny *ℤ ty)
line_apart nx ny px py tx ty h =
    let e : nx *ℤ (px -ℤ tx) +ℤ ny *ℤ (py -ℤ ty) ≡ (nx *ℤ px +ℤ ny *ℤ py) -ℤ (nx *ℤ tx +ℤ ny *ℤ ty) = ring (nx ∷ ny ∷ px ∷ py ∷ tx ∷ ty ∷ []) (var 0 ⊗ (var 2 ⊖ var 4) ⊕ var 1 ⊗ (var 3 ⊖ var 5)) ((var 0 ⊗ var 2 ⊕ var 1 ⊗ var 3) ⊖ (var 0 ⊗ var 4 ⊕ var 1 ⊗ var 5)) refl in
    apart _ _ (subst (λ z. z <ℤ pos 0) e h)
  where
    apart : (a b : ℤ) → (a -ℤ b) <ℤ pos 0 → a <ℤ b
    apart a b k = omega (arith, ints)

pub separates_from_cone : (points : List (List ℤ)) (target normal : List ℤ) (cone : Cone) (seen : ℕ) → length points ≤ seen → Spans points target seen cone → ((x y : ℤ) → IsInCone cone x y → (x_of normal *ℤ x +ℤ y_of normal *ℤ y) <ℤ pos 0) → Separates points target normal
separates_from_cone points target normal cone seen all spans below = λ index within.
    line_apart (x_of normal) (y_of normal) (x_of (point_at points index)) (y_of (point_at points index)) (x_of target) (y_of target)
    (below _ _ (spans.has index (omega arith)))
