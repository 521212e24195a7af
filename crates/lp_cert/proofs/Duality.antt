-- Weak duality: what multipliers of rows say at a point that meets the rows.
use Rattle.std.proofs.Common.{◌≡◌, ℕ, ◌<◌, List, [], ◌∷◌, length, get_or, refl, sym, ap, subst, ◌∙◌, arith, lit<}
use Rattle.std.specs.Prelude.{ℤ, pos, ◌+ℤ◌, ◌*ℤ◌, ◌<ℤ◌, ◌≤ℤ◌}
use Rattle.std.proofs.lemmas.Int.{ints}
use Rattle.exact_algebra.specs.Poly.{var, lit, ◌⊕◌, ◌⊗◌}
use Rattle.exact_algebra.specs.Sums.{dot, total_by}
use Rattle.exact_algebra.proofs.Normal.{ring}
use Rattle.exact_algebra.proofs.Order.{times_at_most, times_below, at_most_trans, times_swap}
use Rattle.exact_algebra.proofs.Sums.{total_by_at_most, total_by-times_right}
use Rattle.lp_cert.specs.Program.{Program, IsProgram, Point, Meets, entry, row_at}
use Rattle.lp_cert.specs.Certificate.{AreWeights, ProvesBound, ProvesEmpty, entry_sum, side_sum}

-- a product of three entries
abbrev three : List ℤ → List ℤ → ℤ
three c y = entry c 0 *ℤ entry y 0 +ℤ (entry c 1 *ℤ entry y 1 +ℤ entry c 2 *ℤ entry y 2)

dot_three : (c y : List ℤ) → length c ≡ 3 → dot c y ≡ three c y
dot_three (a ∷ b ∷ d ∷ []) [] l = ring (a ∷ b ∷ d ∷ []) (lit (pos 0)) (var 0 ⊗ lit (pos 0) ⊕ (var 1 ⊗ lit (pos 0) ⊕ var 2 ⊗ lit (pos 0))) refl
dot_three (a ∷ b ∷ d ∷ []) (x ∷ []) l = ring (a ∷ b ∷ d ∷ x ∷ []) (var 0 ⊗ var 3 ⊕ lit (pos 0)) (var 0 ⊗ var 3 ⊕ (var 1 ⊗ lit (pos 0) ⊕ var 2 ⊗ lit (pos 0))) refl
dot_three (a ∷ b ∷ d ∷ []) (x ∷ y ∷ []) l = ring (a ∷ b ∷ d ∷ x ∷ y ∷ []) (var 0 ⊗ var 3 ⊕ (var 1 ⊗ var 4 ⊕ lit (pos 0))) (var 0 ⊗ var 3 ⊕ (var 1 ⊗ var 4 ⊕ var 2 ⊗ lit (pos 0))) refl
dot_three (a ∷ b ∷ d ∷ []) (x ∷ y ∷ z ∷ rest) l = ring (a ∷ b ∷ d ∷ x ∷ y ∷ z ∷ []) (var 0 ⊗ var 3 ⊕ (var 1 ⊗ var 4 ⊕ (var 2 ⊗ var 5 ⊕ lit (pos 0)))) (var 0 ⊗ var 3 ⊕ (var 1 ⊗ var 4 ⊕ var 2 ⊗ var 5)) refl
dot_three [] y l = absurd (omega arith)
dot_three (a ∷ []) y l = absurd (omega arith)
dot_three (a ∷ b ∷ []) y l = absurd (omega arith)
dot_three (a ∷ b ∷ d ∷ e ∷ c) y l = absurd (omega arith)

-- the multiples of the products are the products of the sums
weighed : (p : Program) (y : List ℤ) (items : List (ℕ × ℤ))
    → total_by (λ item. item.1 *ℤ three (row_at p item.0).c y) items ≡ entry_sum p items 0 *ℤ entry y 0 +ℤ (entry_sum p items 1 *ℤ entry y 1 +ℤ entry_sum p items 2 *ℤ entry y 2)
weighed p y [] = ring (entry y 0 ∷ entry y 1 ∷ entry y 2 ∷ []) (lit (pos 0)) (lit (pos 0) ⊗ var 0 ⊕ (lit (pos 0) ⊗ var 1 ⊕ lit (pos 0) ⊗ var 2)) refl
weighed p y (item ∷ items) =
    let c = (row_at p item.0).c in
    ap (λ z. item.1 *ℤ three c y +ℤ z) (weighed p y items)
    ∙ ring (item.1 ∷ entry c 0 ∷ entry c 1 ∷ entry c 2 ∷ entry y 0 ∷ entry y 1 ∷ entry y 2 ∷ entry_sum p items 0 ∷ entry_sum p items 1 ∷ entry_sum p items 2 ∷ [])
    (var 0 ⊗ (var 1 ⊗ var 4 ⊕ (var 2 ⊗ var 5 ⊕ var 3 ⊗ var 6)) ⊕ (var 7 ⊗ var 4 ⊕ (var 8 ⊗ var 5 ⊕ var 9 ⊗ var 6)))
    ((var 0 ⊗ var 1 ⊕ var 7) ⊗ var 4 ⊕ ((var 0 ⊗ var 2 ⊕ var 8) ⊗ var 5 ⊕ (var 0 ⊗ var 3 ⊕ var 9) ⊗ var 6)) refl

-- one item at a point that meets the rows
one_item : (p : Program) (y : Point) (item : ℕ × ℤ) → IsProgram p → Meets p y → item.0 < length p.rows → pos 0 ≤ℤ item.1
    → (item.1 *ℤ three (row_at p item.0).c y.num) ≤ℤ ((item.1 *ℤ (row_at p item.0).h) *ℤ y.den)
one_item p y item q m l n =
    let r = row_at p item.0 in
    let meets : dot r.c y.num ≤ℤ (r.h *ℤ y.den) = m.each item.0 (record { c = []; h = pos 0 }) l in
    let length_is : length r.c ≡ 3 = (q.each item.0 (record { c = []; h = pos 0 }) l).three in
    let scaled : (item.1 *ℤ dot r.c y.num) ≤ℤ (item.1 *ℤ (r.h *ℤ y.den)) = times_at_most item.1 (dot r.c y.num) (r.h *ℤ y.den) n meets in
    subst (λ z. (item.1 *ℤ three r.c y.num) ≤ℤ z) (ring (item.1 ∷ r.h ∷ y.den ∷ []) (var 0 ⊗ (var 1 ⊗ var 2)) ((var 0 ⊗ var 1) ⊗ var 2) refl)
    (subst (λ z. (item.1 *ℤ z) ≤ℤ (item.1 *ℤ (r.h *ℤ y.den))) (dot_three r.c y.num length_is) scaled)

sums_at : (p : Program) (y : Point) (items : List (ℕ × ℤ)) → IsProgram p → Meets p y → AreWeights p items
    → (entry_sum p items 0 *ℤ entry y.num 0 +ℤ (entry_sum p items 1 *ℤ entry y.num 1 +ℤ entry_sum p items 2 *ℤ entry y.num 2)) ≤ℤ (side_sum p items *ℤ y.den)
sums_at p y items q m w =
    let f = λ (item : ℕ × ℤ). item.1 *ℤ three (row_at p item.0).c y.num in
    let g = λ (item : ℕ × ℤ). (item.1 *ℤ (row_at p item.0).h) *ℤ y.den in
    let h : total_by f items ≤ℤ total_by g items = total_by_at_most f g items (λ k d l. one_item p y (get_or items k d) q m (w.rows k d l) (w.not_negative k d l)) in
    subst (λ z. z ≤ℤ (side_sum p items *ℤ y.den)) (weighed p y.num items)
    (subst (λ z. total_by f items ≤ℤ z) (total_by-times_right y.den (λ (item : ℕ × ℤ). item.1 *ℤ (row_at p item.0).h) items) h)

scaled_side : (s t d : ℤ) → pos 0 <ℤ d → s ≤ℤ t → (s *ℤ d) ≤ℤ (t *ℤ d)
scaled_side s t d p h =
    subst (λ z. z ≤ℤ (t *ℤ d)) (times_swap d s) (subst (λ z. (d *ℤ s) ≤ℤ z) (times_swap d t) (times_at_most d s t (omega (arith, ints)) h))

scaled_side_below : (s t d : ℤ) → pos 0 <ℤ d → s <ℤ t → (s *ℤ d) <ℤ (t *ℤ d)
scaled_side_below s t d p h =
    subst (λ z. z <ℤ (t *ℤ d)) (times_swap d s) (subst (λ z. (d *ℤ s) <ℤ z) (times_swap d t) (times_below d s t p h))

pub bound_holds : (p : Program) (objective : List ℤ) (items : List (ℕ × ℤ)) (num den : ℤ) (y : Point) → length objective ≡ 3
    → IsProgram p → ProvesBound p objective items num den → Meets p y → (den *ℤ dot objective y.num) ≤ℤ (num *ℤ y.den)
bound_holds p o items num den y l q b m =
    let e = ring (den ∷ entry o 0 ∷ entry o 1 ∷ entry o 2 ∷ entry y.num 0 ∷ entry y.num 1 ∷ entry y.num 2 ∷ [])
    (var 0 ⊗ (var 1 ⊗ var 4 ⊕ (var 2 ⊗ var 5 ⊕ var 3 ⊗ var 6)))
    ((var 0 ⊗ var 1) ⊗ var 4 ⊕ ((var 0 ⊗ var 2) ⊗ var 5 ⊕ (var 0 ⊗ var 3) ⊗ var 6)) refl in
    let f : den *ℤ dot o y.num ≡ entry_sum p items 0 *ℤ entry y.num 0 +ℤ (entry_sum p items 1 *ℤ entry y.num 1 +ℤ entry_sum p items 2 *ℤ entry y.num 2) =
    ap (λ z. den *ℤ z) (dot_three o y.num l) ∙ e
    ∙ ap (λ z. z *ℤ entry y.num 0 +ℤ ((den *ℤ entry o 1) *ℤ entry y.num 1 +ℤ (den *ℤ entry o 2) *ℤ entry y.num 2)) (sym (b.entries 0 (lit< tt)))
    ∙ ap (λ z. entry_sum p items 0 *ℤ entry y.num 0 +ℤ (z *ℤ entry y.num 1 +ℤ (den *ℤ entry o 2) *ℤ entry y.num 2)) (sym (b.entries 1 (lit< tt)))
    ∙ ap (λ z. entry_sum p items 0 *ℤ entry y.num 0 +ℤ (entry_sum p items 1 *ℤ entry y.num 1 +ℤ z *ℤ entry y.num 2)) (sym (b.entries 2 (lit< tt))) in
    subst (λ z. z ≤ℤ (num *ℤ y.den)) (sym f)
    (at_most_trans _ (side_sum p items *ℤ y.den) (num *ℤ y.den) (sums_at p y items q m b.weights) (scaled_side (side_sum p items) num y.den m.positive b.side))

pub none_meets : (p : Program) (items : List (ℕ × ℤ)) (y : Point) → IsProgram p → ProvesEmpty p items → Meets p y → ⊥
none_meets p items y q b m =
    let f : entry_sum p items 0 *ℤ entry y.num 0 +ℤ (entry_sum p items 1 *ℤ entry y.num 1 +ℤ entry_sum p items 2 *ℤ entry y.num 2) ≡ pos 0 =
    ap (λ z. z *ℤ entry y.num 0 +ℤ (entry_sum p items 1 *ℤ entry y.num 1 +ℤ entry_sum p items 2 *ℤ entry y.num 2)) (b.entries 0 (lit< tt))
    ∙ ap (λ z. pos 0 *ℤ entry y.num 0 +ℤ (z *ℤ entry y.num 1 +ℤ entry_sum p items 2 *ℤ entry y.num 2)) (b.entries 1 (lit< tt))
    ∙ ap (λ z. pos 0 *ℤ entry y.num 0 +ℤ (pos 0 *ℤ entry y.num 1 +ℤ z *ℤ entry y.num 2)) (b.entries 2 (lit< tt))
    ∙ ring (entry y.num 0 ∷ entry y.num 1 ∷ entry y.num 2 ∷ []) (lit (pos 0) ⊗ var 0 ⊕ (lit (pos 0) ⊗ var 1 ⊕ lit (pos 0) ⊗ var 2)) (lit (pos 0)) refl in
    let zero_side : pos 0 ≤ℤ (side_sum p items *ℤ y.den) = subst (λ z. z ≤ℤ (side_sum p items *ℤ y.den)) f (sums_at p y items q m b.weights) in
    let below : (side_sum p items *ℤ y.den) <ℤ (pos 0 *ℤ y.den) = scaled_side_below (side_sum p items) (pos 0) y.den m.positive b.side in
    let none : (side_sum p items *ℤ y.den) <ℤ pos 0 = subst (λ z. (side_sum p items *ℤ y.den) <ℤ z) (ring (y.den ∷ []) (lit (pos 0) ⊗ var 0) (lit (pos 0)) refl) below in
    omega (arith, ints)
