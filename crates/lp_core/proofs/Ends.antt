-- The bounds that rows make on the line of an edge.
use Rattle.std.proofs.Common.{◌⊎◌, ◌≡◌, ℕ, ◌+◌, ◌*◌, List, [], ◌∷◌, refl, sym, ap, subst, ◌∙◌, arith, inl, inr}
use Rattle.std.specs.Prelude.{ℤ, pos, negsuc, ◌+ℤ◌, ◌-ℤ◌, ◌*ℤ◌, ◌<ℤ◌, ◌≤ℤ◌}
use Rattle.std.proofs.lemmas.Int.{ints, by_lt_z}
use Rattle.exact_algebra.specs.Poly.{var, lit, ◌⊕◌, ◌⊖◌, ◌⊗◌}
use Rattle.exact_algebra.proofs.Normal.{ring}
use Rattle.exact_algebra.proofs.Order.{at_most_by, at_most_from_same, at_most_from_times, product_at_least_zero}
use Rattle.lp_core.specs.Lines.{line_at}
use Rattle.lp_core.specs.declared.reduced.Line.{Line}
use Rattle.lp_core.specs.declared.pivot.Pivot.{Pivot}
use Rattle.lp_core.specs.Bounds.{Limit, Reach, Peak, IsBoxRow, IsLimit, IsReach, IsTighter, IsCut, IsPeak, left_entry, left_side}

least : (a : ℤ) → pos 0 <ℤ a → pos 0 ≤ℤ a
least a h = omega (arith, ints)

gap : (a b : ℤ) → a ≤ℤ b → pos 0 ≤ℤ (b -ℤ a)
gap a b h = omega (arith, ints)

both : (a b : ℤ) → pos 0 ≤ℤ a → pos 0 ≤ℤ b → pos 0 ≤ℤ (a +ℤ b)
both a b h k = omega (arith, ints)

-- a bound that is less than one that is less than a third
tighter_trans : (b e c f x y : ℤ) → pos 0 <ℤ e → pos 0 <ℤ f → pos 0 <ℤ x → (b *ℤ x) ≤ℤ (y *ℤ e) → (c *ℤ e) ≤ℤ (b *ℤ f) → (c *ℤ x) ≤ℤ (y *ℤ f)
tighter_trans b e c f x y pe pf px h k =
    at_most_from_times e (c *ℤ x) (y *ℤ f) pe
    (at_most_by (b ∷ e ∷ c ∷ f ∷ x ∷ y ∷ []) (var 1 ⊗ (var 2 ⊗ var 4)) (var 1 ⊗ (var 5 ⊗ var 3)) (var 3 ⊗ (var 5 ⊗ var 1 ⊖ var 0 ⊗ var 4) ⊕ var 4 ⊗ (var 0 ⊗ var 3 ⊖ var 2 ⊗ var 1)) refl
    (both (f *ℤ (y *ℤ e -ℤ b *ℤ x)) (x *ℤ (b *ℤ f -ℤ c *ℤ e))
    (product_at_least_zero f (y *ℤ e -ℤ b *ℤ x) (least f pf) (gap (b *ℤ x) (y *ℤ e) h))
    (product_at_least_zero x (b *ℤ f -ℤ c *ℤ e) (least x px) (gap (c *ℤ e) (b *ℤ f) k))))

-- a bound of the opposite that isn't crossed
across : (f s u d v w : ℤ) → pos 0 <ℤ w → pos 0 ≤ℤ d → pos 0 ≤ℤ f → (v *ℤ f) ≤ℤ (s *ℤ w) → pos 0 ≤ℤ (w *ℤ u +ℤ d *ℤ v) → ((pos 0 -ℤ f) *ℤ u) ≤ℤ (s *ℤ d)
across f s u d v w pw pd pf h k =
    at_most_from_times w ((pos 0 -ℤ f) *ℤ u) (s *ℤ d) pw
    (at_most_by (f ∷ s ∷ u ∷ d ∷ v ∷ w ∷ []) (var 5 ⊗ ((lit (pos 0) ⊖ var 0) ⊗ var 2)) (var 5 ⊗ (var 1 ⊗ var 3)) (var 3 ⊗ (var 1 ⊗ var 5 ⊖ var 4 ⊗ var 0) ⊕ var 0 ⊗ (var 5 ⊗ var 2 ⊕ var 3 ⊗ var 4)) refl
    (both (d *ℤ (s *ℤ w -ℤ v *ℤ f)) (f *ℤ (w *ℤ u +ℤ d *ℤ v))
    (product_at_least_zero d (s *ℤ w -ℤ v *ℤ f) pd (gap (v *ℤ f) (s *ℤ w) h))
    (product_at_least_zero f (w *ℤ u +ℤ d *ℤ v) pf k)))

module _ (lines : List Line) (p : Pivot) (k : ℕ) where
  -- ---- one more row
  module _ (l : ℕ) (done next rows : ℕ → Type 0) (split : (i : ℕ) → next i → done i ⊎ (i ≡ l)) where
    bound_new : (s : ℤ) (old new b : Limit) → IsLimit s lines p k done rows old → IsTighter old new b → rows l → new.row ≡ l → pos 0 <ℤ new.entry → new.entry ≡ s *ℤ left_entry p (line_at lines l) k → new.side ≡ left_side p (line_at lines l)
        → IsLimit s lines p k next rows b
    bound_new s old new b h t inside row positive entry side = record {
      row = elim t.which [ inl e ↦ subst (λ (z : Limit). rows z.row) (sym e) h.row | inr e ↦ subst (λ (z : Limit). rows z.row) (sym e) (subst rows (sym row) inside) ];
      positive = above;
      entry = elim t.which [
        | inl e ↦ subst (λ (z : Limit). z.entry ≡ s *ℤ left_entry p (line_at lines z.row) k) (sym e) h.entry
        | inr e ↦ subst (λ (z : Limit). z.entry ≡ s *ℤ left_entry p (line_at lines z.row) k) (sym e) (subst (λ n. new.entry ≡ s *ℤ left_entry p (line_at lines n) k) (sym row) entry)
      ];
      side = elim t.which [
        | inl e ↦ subst (λ (z : Limit). z.side ≡ left_side p (line_at lines z.row)) (sym e) h.side
        | inr e ↦ subst (λ (z : Limit). z.side ≡ left_side p (line_at lines z.row)) (sym e) (subst (λ n. new.side ≡ left_side p (line_at lines n)) (sym row) side)
      ];
      below = λ i n x. by_row i (split i n) x;
    }
      where
        above : pos 0 <ℤ b.entry
        above = elim t.which [ inl e ↦ subst (λ (z : Limit). pos 0 <ℤ z.entry) (sym e) h.positive | inr e ↦ subst (λ (z : Limit). pos 0 <ℤ z.entry) (sym e) positive ]

        by_row : (i : ℕ) → done i ⊎ (i ≡ l) → pos 0 <ℤ (s *ℤ left_entry p (line_at lines i) k) → (b.side *ℤ (s *ℤ left_entry p (line_at lines i) k)) ≤ℤ (left_side p (line_at lines i) *ℤ b.entry)
        by_row i (inl d) x = tighter_trans old.side old.entry b.side b.entry (s *ℤ left_entry p (line_at lines i) k) (left_side p (line_at lines i)) h.positive above x (h.below i d x) t.by_old
        by_row i (inr e) x =
            subst (λ j. (b.side *ℤ (s *ℤ left_entry p (line_at lines j) k)) ≤ℤ (left_side p (line_at lines j) *ℤ b.entry)) (sym e)
            (subst (λ z. (b.side *ℤ z) ≤ℤ (left_side p (line_at lines l) *ℤ b.entry)) entry (subst (λ z. (b.side *ℤ new.entry) ≤ℤ (z *ℤ b.entry)) side t.by_new))

    bound_same : (s : ℤ) (b : Limit) → IsLimit s lines p k done rows b → (pos 0 <ℤ (s *ℤ left_entry p (line_at lines l) k) → ⊥) → IsLimit s lines p k next rows b
    bound_same s b h none = record { row = h.row; positive = h.positive; entry = h.entry; side = h.side; below = λ i n x. by_row i (split i n) x }
      where
        by_row : (i : ℕ) → done i ⊎ (i ≡ l) → pos 0 <ℤ (s *ℤ left_entry p (line_at lines i) k) → (b.side *ℤ (s *ℤ left_entry p (line_at lines i) k)) ≤ℤ (left_side p (line_at lines i) *ℤ b.entry)
        by_row i (inl d) x = h.below i d x
        by_row i (inr e) x = absurd (none (subst (λ j. pos 0 <ℤ (s *ℤ left_entry p (line_at lines j) k)) e x))

  same_one : (z : ℤ) → pos 1 *ℤ z ≡ z
  same_one z = ring (z ∷ []) (lit (pos 1) ⊗ var 0) (var 0) refl

  opposite : (z : ℤ) → negsuc 0 *ℤ z ≡ pos 0 -ℤ z
  opposite z = ring (z ∷ []) (lit (negsuc 0) ⊗ var 0) (lit (pos 0) ⊖ var 0) refl

  not_upper : (z : ℤ) → z ≤ℤ pos 0 → pos 0 <ℤ (pos 1 *ℤ z) → ⊥
  not_upper z h x = let y : pos 0 <ℤ z = subst (λ t. pos 0 <ℤ t) (same_one z) x in omega (arith, ints, h, y)

  not_lower : (z : ℤ) → pos 0 ≤ℤ z → pos 0 <ℤ (negsuc 0 *ℤ z) → ⊥
  not_lower z h x = let y : pos 0 <ℤ (pos 0 -ℤ z) = subst (λ t. pos 0 <ℤ t) (opposite z) x in omega (arith, ints, h, y)

  pub ends_more : (l : ℕ) (done next rows : ℕ → Type 0) → ((i : ℕ) → next i → done i ⊎ (i ≡ l)) → (e f : Reach) (entry side : ℤ) → IsReach lines p k done rows e → IsCut e entry side l f → rows l → entry ≡ left_entry p (line_at lines l) k → side ≡ left_side p (line_at lines l)
      → IsReach lines p k next rows f
  ends_more l done next rows split e f a b h cut inside entry side = by_case cut
    where
      flat_more : (left_entry p (line_at lines l) k ≡ pos 0 → pos 0 ≤ℤ left_side p (line_at lines l)) → (i : ℕ) → next i → left_entry p (line_at lines i) k ≡ pos 0 → pos 0 ≤ℤ left_side p (line_at lines i)
      flat_more last i n = by_row (split i n)
        where
          by_row : done i ⊎ (i ≡ l) → left_entry p (line_at lines i) k ≡ pos 0 → pos 0 ≤ℤ left_side p (line_at lines i)
          by_row (inl d) z = h.flat i d z
          by_row (inr g) z = subst (λ j. pos 0 ≤ℤ left_side p (line_at lines j)) (sym g) (last (subst (λ j. left_entry p (line_at lines j) k ≡ pos 0) g z))

      by_case : IsCut e a b l f → IsReach lines p k next rows f
      by_case (inl u) = record {
        upper = bound_new l done next rows split (pos 1) e.upper (record { row = l; entry = a; side = b }) f.upper h.upper u.upper inside refl u.sign (entry ∙ sym (same_one (left_entry p (line_at lines l) k))) side;
        lower = subst (λ z. IsLimit (negsuc 0) lines p k next rows z) (sym u.lower)
            (bound_same l done next rows split (negsuc 0) e.lower h.lower (not_lower (left_entry p (line_at lines l) k) (subst (λ z. pos 0 ≤ℤ z) entry (least a u.sign))));
        flat = flat_more (λ z. absurd (nonzero a u.sign (entry ∙ z)));
      }
        where
          nonzero : (a : ℤ) → pos 0 <ℤ a → a ≡ pos 0 → ⊥
          nonzero a x y = omega (arith, ints, x, y)
      by_case (inr (inl u)) = record {
        upper = subst (λ z. IsLimit (pos 1) lines p k next rows z) (sym u.upper)
            (bound_same l done next rows split (pos 1) e.upper h.upper (not_upper (left_entry p (line_at lines l) k) (subst (λ z. z ≤ℤ pos 0) entry (most a u.sign))));
        lower = bound_new l done next rows split (negsuc 0) e.lower (record { row = l; entry = pos 0 -ℤ a; side = b }) f.lower h.lower u.lower inside refl (above a u.sign) (ap (λ z. pos 0 -ℤ z) entry ∙ sym (opposite (left_entry p (line_at lines l) k))) side;
        flat = flat_more (λ z. absurd (nonzero a u.sign (entry ∙ z)));
      }
        where
          most : (a : ℤ) → a <ℤ pos 0 → a ≤ℤ pos 0
          most a x = omega (arith, ints)

          above : (a : ℤ) → a <ℤ pos 0 → pos 0 <ℤ (pos 0 -ℤ a)
          above a y = omega (arith, ints)

          nonzero : (a : ℤ) → a <ℤ pos 0 → a ≡ pos 0 → ⊥
          nonzero a x y = omega (arith, ints, x, y)
      by_case (inr (inr u)) =
          let none : left_entry p (line_at lines l) k ≡ pos 0 = sym entry ∙ u.sign in
          subst (λ z. IsReach lines p k next rows z) (sym u.same) (record {
            upper = bound_same l done next rows split (pos 1) e.upper h.upper (not_upper (left_entry p (line_at lines l) k) (at_most_from_same _ _ none));
            lower = bound_same l done next rows split (negsuc 0) e.lower h.lower (not_lower (left_entry p (line_at lines l) k) (at_most_from_same _ _ (sym none)));
            flat = flat_more (λ z. subst (λ s. pos 0 ≤ℤ s) side u.met);
          })

  -- ---- the better end meets each row
  module _ (done rows : ℕ → Type 0) (e : Reach) (h : IsReach lines p k done rows e) (met : pos 0 ≤ℤ (e.lower.entry *ℤ e.upper.side +ℤ e.upper.entry *ℤ e.lower.side)) (l : ℕ) (inside : done l) where
    upper_meets : (left_entry p (line_at lines l) k *ℤ e.upper.side) ≤ℤ (left_side p (line_at lines l) *ℤ e.upper.entry)
    upper_meets = by_sign (left_entry p (line_at lines l) k) refl
      where
        by_sign : (z : ℤ) → left_entry p (line_at lines l) k ≡ z → (left_entry p (line_at lines l) k *ℤ e.upper.side) ≤ℤ (left_side p (line_at lines l) *ℤ e.upper.entry)
        by_sign z g = by_lt_z (pos 0) (left_entry p (line_at lines l) k)
            (λ x. subst (λ t. t ≤ℤ (left_side p (line_at lines l) *ℤ e.upper.entry)) (ring (e.upper.side ∷ left_entry p (line_at lines l) k ∷ []) (var 0 ⊗ (lit (pos 1) ⊗ var 1)) (var 1 ⊗ var 0) refl)
            (h.upper.below l inside (subst (λ t. pos 0 <ℤ t) (sym (same_one (left_entry p (line_at lines l) k))) x)))
            (λ x. by_lt_z (left_entry p (line_at lines l) k) (pos 0)
            (λ y.
            let f = negsuc 0 *ℤ left_entry p (line_at lines l) k in
            let pf : pos 0 <ℤ f = subst (λ t. pos 0 <ℤ t) (sym (opposite (left_entry p (line_at lines l) k))) (above (left_entry p (line_at lines l) k) y) in
            subst (λ t. t ≤ℤ (left_side p (line_at lines l) *ℤ e.upper.entry)) (ring (left_entry p (line_at lines l) k ∷ e.upper.side ∷ []) ((lit (pos 0) ⊖ lit (negsuc 0) ⊗ var 0) ⊗ var 1) (var 0 ⊗ var 1) refl)
            (across f (left_side p (line_at lines l)) e.upper.side e.upper.entry e.lower.side e.lower.entry h.lower.positive (least e.upper.entry h.upper.positive) (least f pf) (h.lower.below l inside pf) met))
            (λ y.
            let none : left_entry p (line_at lines l) k ≡ pos 0 = between (left_entry p (line_at lines l) k) x y in
            subst (λ t. t ≤ℤ (left_side p (line_at lines l) *ℤ e.upper.entry)) (sym (ap (λ t. t *ℤ e.upper.side) none ∙ ring (e.upper.side ∷ []) (lit (pos 0) ⊗ var 0) (lit (pos 0)) refl))
            (product_at_least_zero (left_side p (line_at lines l)) e.upper.entry (h.flat l inside none) (least e.upper.entry h.upper.positive))))
          where
            above : (a : ℤ) → a <ℤ pos 0 → pos 0 <ℤ (pos 0 -ℤ a)
            above a y = omega (arith, ints)

            between : (a : ℤ) → a ≤ℤ pos 0 → pos 0 ≤ℤ a → a ≡ pos 0
            between a x y = omega (arith, ints)

    lower_meets : (left_entry p (line_at lines l) k *ℤ (pos 0 -ℤ e.lower.side)) ≤ℤ (left_side p (line_at lines l) *ℤ e.lower.entry)
    lower_meets = by_lt_z (left_entry p (line_at lines l) k) (pos 0)
        (λ y.
        let pf : pos 0 <ℤ (negsuc 0 *ℤ left_entry p (line_at lines l) k) = subst (λ t. pos 0 <ℤ t) (sym (opposite (left_entry p (line_at lines l) k))) (above (left_entry p (line_at lines l) k) y) in
        subst (λ t. t ≤ℤ (left_side p (line_at lines l) *ℤ e.lower.entry)) (ring (e.lower.side ∷ left_entry p (line_at lines l) k ∷ []) (var 0 ⊗ (lit (negsuc 0) ⊗ var 1)) (var 1 ⊗ (lit (pos 0) ⊖ var 0)) refl) (h.lower.below l inside pf))
        (λ y. by_lt_z (pos 0) (left_entry p (line_at lines l) k)
        (λ x.
        let f = pos 1 *ℤ left_entry p (line_at lines l) k in
        let pf : pos 0 <ℤ f = subst (λ t. pos 0 <ℤ t) (sym (same_one (left_entry p (line_at lines l) k))) x in
        subst (λ t. t ≤ℤ (left_side p (line_at lines l) *ℤ e.lower.entry)) (ring (left_entry p (line_at lines l) k ∷ e.lower.side ∷ []) ((lit (pos 0) ⊖ lit (pos 1) ⊗ var 0) ⊗ var 1) (var 0 ⊗ (lit (pos 0) ⊖ var 1)) refl)
        (across f (left_side p (line_at lines l)) e.lower.side e.lower.entry e.upper.side e.upper.entry h.upper.positive (least e.lower.entry h.lower.positive) (least f pf) (h.upper.below l inside pf)
        (turned (e.lower.entry *ℤ e.upper.side) (e.upper.entry *ℤ e.lower.side) met)))
        (λ x.
        let none : left_entry p (line_at lines l) k ≡ pos 0 = between (left_entry p (line_at lines l) k) x y in
        subst (λ t. t ≤ℤ (left_side p (line_at lines l) *ℤ e.lower.entry)) (sym (ap (λ t. t *ℤ (pos 0 -ℤ e.lower.side)) none ∙ ring (e.lower.side ∷ []) (lit (pos 0) ⊗ (lit (pos 0) ⊖ var 0)) (lit (pos 0)) refl))
        (product_at_least_zero (left_side p (line_at lines l)) e.lower.entry (h.flat l inside none) (least e.lower.entry h.lower.positive))))
      where
        above : (a : ℤ) → a <ℤ pos 0 → pos 0 <ℤ (pos 0 -ℤ a)
        above a y = omega (arith, ints)

        between : (a : ℤ) → a ≤ℤ pos 0 → pos 0 ≤ℤ a → a ≡ pos 0
        between a x y = omega (arith, ints)

        turned : (a b : ℤ) → pos 0 ≤ℤ (a +ℤ b) → pos 0 ≤ℤ (b +ℤ a)
        turned a b m = omega (arith, ints)

    pub tip_meets : (o : ℤ) (t : Peak) → IsPeak e o t → (left_entry p (line_at lines l) k *ℤ t.at) ≤ℤ (left_side p (line_at lines l) *ℤ t.den)
    tip_meets o t (inl u) =
        subst (λ z. (left_entry p (line_at lines l) k *ℤ z) ≤ℤ (left_side p (line_at lines l) *ℤ t.den)) (sym u.at)
        (subst (λ z. (left_entry p (line_at lines l) k *ℤ e.upper.side) ≤ℤ (left_side p (line_at lines l) *ℤ z)) (sym u.den) upper_meets)
    tip_meets o t (inr u) =
        subst (λ z. (left_entry p (line_at lines l) k *ℤ z) ≤ℤ (left_side p (line_at lines l) *ℤ t.den)) (sym u.at)
        (subst (λ z. (left_entry p (line_at lines l) k *ℤ (pos 0 -ℤ e.lower.side)) ≤ℤ (left_side p (line_at lines l) *ℤ z)) (sym u.den) lower_meets)

  -- ---- its row
  pub record IsOn (o : ℤ) (rows : ℕ → Type 0) (t : Peak) : Type 0 where
    pub row : rows t.row
    pub entry : t.times *ℤ left_entry p (line_at lines t.row) k ≡ t.den *ℤ o
    pub side : t.times *ℤ left_side p (line_at lines t.row) ≡ o *ℤ t.at
    pub positive : pos 0 <ℤ t.den
    pub not_negative : pos 0 ≤ℤ t.times

  pub tip_on : (done rows : ℕ → Type 0) (e : Reach) (o : ℤ) (t : Peak) → IsReach lines p k done rows e → IsPeak e o t → IsOn o rows t
  tip_on done rows e o t h (inl u) =
      let b = e.upper in
      let m = line_at lines t.row in
      let den : t.den ≡ left_entry p m k = u.den ∙ h.upper.entry ∙ same_one (left_entry p (line_at lines b.row) k) ∙ ap (λ n. left_entry p (line_at lines n) k) (sym u.row) in
      let at : t.at ≡ left_side p m = u.at ∙ h.upper.side ∙ ap (λ n. left_side p (line_at lines n)) (sym u.row) in
      record {
        row = subst rows (sym u.row) h.upper.row;
        entry = ap (λ z. z *ℤ left_entry p m k) u.times ∙ ap (λ z. o *ℤ z) (sym den) ∙ ring (o ∷ t.den ∷ []) (var 0 ⊗ var 1) (var 1 ⊗ var 0) refl;
        side = ap (λ z. z *ℤ left_side p m) u.times ∙ ap (λ z. o *ℤ z) (sym at);
        positive = subst (λ z. pos 0 <ℤ z) (sym u.den) h.upper.positive;
        not_negative = subst (λ z. pos 0 ≤ℤ z) (sym u.times) u.sign;
      }
  tip_on done rows e o t h (inr u) =
      let b = e.lower in
      let m = line_at lines t.row in
      let den : t.den ≡ pos 0 -ℤ left_entry p m k = u.den ∙ h.lower.entry ∙ opposite (left_entry p (line_at lines b.row) k) ∙ ap (λ n. pos 0 -ℤ left_entry p (line_at lines n) k) (sym u.row) in
      let at : t.at ≡ pos 0 -ℤ left_side p m = u.at ∙ ap (λ z. pos 0 -ℤ z) (h.lower.side ∙ ap (λ n. left_side p (line_at lines n)) (sym u.row)) in
      record {
        row = subst rows (sym u.row) h.lower.row;
        entry = ap (λ z. z *ℤ left_entry p m k) u.times ∙ ring (o ∷ left_entry p m k ∷ []) ((lit (pos 0) ⊖ var 0) ⊗ var 1) ((lit (pos 0) ⊖ var 1) ⊗ var 0) refl ∙ ap (λ z. z *ℤ o) (sym den);
        side = ap (λ z. z *ℤ left_side p m) u.times ∙ ring (o ∷ left_side p m ∷ []) ((lit (pos 0) ⊖ var 0) ⊗ var 1) (var 0 ⊗ (lit (pos 0) ⊖ var 1)) refl ∙ ap (λ z. o *ℤ z) (sym at);
        positive = subst (λ z. pos 0 <ℤ z) (sym u.den) h.lower.positive;
        not_negative = subst (λ z. pos 0 ≤ℤ z) (sym u.times) (opposite_sign o u.sign);
      }
    where
      opposite_sign : (a : ℤ) → a <ℤ pos 0 → pos 0 ≤ℤ (pos 0 -ℤ a)
      opposite_sign a x = omega (arith, ints)

  -- ---- the box of the variable
  pub own_ends : (rows : ℕ → Type 0) (e : Reach) → rows (2 * k) → rows (2 * k + 1) → e.upper.row ≡ 2 * k → e.lower.row ≡ 2 * k + 1 → e.upper.entry ≡ pos 1 → e.lower.entry ≡ pos 1
      → left_entry p (line_at lines (2 * k)) k ≡ pos 1 → left_entry p (line_at lines (2 * k + 1)) k ≡ negsuc 0 → e.upper.side ≡ left_side p (line_at lines (2 * k)) → e.lower.side ≡ left_side p (line_at lines (2 * k + 1))
      → IsReach lines p k (IsBoxRow k) rows e
  own_ends rows e a b ur lr ue le up lo us ls = record {
    upper = record {
      row = subst rows (sym ur) a;
      positive = subst (λ z. pos 0 <ℤ z) (sym ue) (omega (arith, ints));
      entry = ue ∙ ap (λ z. pos 1 *ℤ z) (sym up) ∙ ap (λ n. pos 1 *ℤ left_entry p (line_at lines n) k) (sym ur);
      side = us ∙ ap (λ n. left_side p (line_at lines n)) (sym ur);
      below = λ l h. by_upper l h;
    };
    lower = record {
      row = subst rows (sym lr) b;
      positive = subst (λ z. pos 0 <ℤ z) (sym le) (omega (arith, ints));
      entry = le ∙ ap (λ z. negsuc 0 *ℤ z) (sym lo) ∙ ap (λ n. negsuc 0 *ℤ left_entry p (line_at lines n) k) (sym lr);
      side = ls ∙ ap (λ n. left_side p (line_at lines n)) (sym lr);
      below = λ l h. by_lower l h;
    };
    flat = λ l h. by_flat l h;
  }
    where
      same_bound : (b s x y : ℤ) → b ≡ s → x ≡ pos 1 → y ≡ pos 1 → (b *ℤ x) ≤ℤ (s *ℤ y)
      same_bound b s x y f g h = at_most_from_same _ _ (ap (λ z. z *ℤ x) f ∙ ap (λ z. s *ℤ z) (g ∙ sym h))

      by_upper : (l : ℕ) → IsBoxRow k l → pos 0 <ℤ (pos 1 *ℤ left_entry p (line_at lines l) k) → (e.upper.side *ℤ (pos 1 *ℤ left_entry p (line_at lines l) k)) ≤ℤ (left_side p (line_at lines l) *ℤ e.upper.entry)
      by_upper l (inl f) x =
          same_bound e.upper.side (left_side p (line_at lines l)) (pos 1 *ℤ left_entry p (line_at lines l) k) e.upper.entry
          (us ∙ ap (λ n. left_side p (line_at lines n)) (sym f)) (ap (λ n. pos 1 *ℤ left_entry p (line_at lines n) k) f ∙ ap (λ z. pos 1 *ℤ z) up) ue
      by_upper l (inr f) x = absurd (not_upper (left_entry p (line_at lines l) k) (subst (λ z. z ≤ℤ pos 0) (sym (ap (λ n. left_entry p (line_at lines n) k) f ∙ lo)) (omega (arith, ints))) x)

      by_lower : (l : ℕ) → IsBoxRow k l → pos 0 <ℤ (negsuc 0 *ℤ left_entry p (line_at lines l) k) → (e.lower.side *ℤ (negsuc 0 *ℤ left_entry p (line_at lines l) k)) ≤ℤ (left_side p (line_at lines l) *ℤ e.lower.entry)
      by_lower l (inr f) x =
          same_bound e.lower.side (left_side p (line_at lines l)) (negsuc 0 *ℤ left_entry p (line_at lines l) k) e.lower.entry
          (ls ∙ ap (λ n. left_side p (line_at lines n)) (sym f)) (ap (λ n. negsuc 0 *ℤ left_entry p (line_at lines n) k) f ∙ ap (λ z. negsuc 0 *ℤ z) lo) le
      by_lower l (inl f) x = absurd (not_lower (left_entry p (line_at lines l) k) (subst (λ z. pos 0 ≤ℤ z) (sym (ap (λ n. left_entry p (line_at lines n) k) f ∙ up)) (omega (arith, ints))) x)

      by_flat : (l : ℕ) → IsBoxRow k l → left_entry p (line_at lines l) k ≡ pos 0 → pos 0 ≤ℤ left_side p (line_at lines l)
      by_flat l (inl f) z = absurd (apart (pos 1) (sym (ap (λ n. left_entry p (line_at lines n) k) f ∙ up) ∙ z) (λ g. omega (arith, ints, g)))
        where
          apart : (a : ℤ) → a ≡ pos 0 → (a ≡ pos 0 → ⊥) → ⊥
          apart a g n = n g
      by_flat l (inr f) z = absurd (apart (negsuc 0) (sym (ap (λ n. left_entry p (line_at lines n) k) f ∙ lo) ∙ z) (λ g. omega (arith, ints, g)))
        where
          apart : (a : ℤ) → a ≡ pos 0 → (a ≡ pos 0 → ⊥) → ⊥
          apart a g n = n g
