-- From the smaller program back to the larger: an optimum of the rows so far and the one that became an equation, or a proof that there is none.
use Rattle.std.proofs.Common.{◌≡◌, ◌≢◌, ℕ, suc, ◌+◌, ◌*◌, ◌<◌, ◌≤◌, List, [], ◌∷◌, length, get_or, refl, sym, ap, subst, ◌∙◌, arith, lit<, lit≤, ◌⊎◌, inl, inr}
use Rattle.std.specs.Prelude.{ℤ, pos, negsuc, ◌+ℤ◌, ◌-ℤ◌, ◌*ℤ◌, ◌<ℤ◌, ◌≤ℤ◌, All, Bool, true, false, nat_eq}
use Rattle.std.specs.List.{AllByRecursion}
use Rattle.std.specs.Int.RustNames.{unsigned_abs}
use Rattle.std.proofs.lemmas.Int.{ints}
use Rattle.std.proofs.lemmas.Nat.{mul-le}
use Rattle.std.proofs.lemmas.Bool.Decides.{nat_tests}
use Rattle.std.proofs.lemmas.List.{length-append, length-map}
use Rattle.std.proofs.lemmas.List.Elements.{All-cons, All-nil, All-map, All-push, recursion_from_All}
use Rattle.exact_algebra.specs.Poly.{var, lit, ◌⊕◌, ◌⊖◌, ◌⊗◌}
use Rattle.exact_algebra.specs.Sums.{total_by}
use Rattle.exact_algebra.proofs.Normal.{ring}
use Rattle.exact_algebra.proofs.Order.{abs_product, abs_sum, abs_difference, at_most_from_same, product_at_least_zero, product_above_zero}
use Rattle.lp_cert.specs.Program.{entry}
use Rattle.lp_core.specs.declared.reduced.Line.{Line}
use Rattle.lp_core.specs.Reduced.{Reduced}
use Rattle.lp_core.specs.declared.reduced.Optimum.{Optimum}
use Rattle.lp_core.specs.declared.pivot.Pivot.{Pivot}
use Rattle.lp_core.specs.Lines.{along, line_at, line_sum, line_sides, is_seen, all_seen, IsMet, IsDual}
use Rattle.lp_core.specs.Sizes.{level, entry_most, side_most, objective_most, den_most, num_most, dual_most, farkas_most, AreAtMost, AreFew}
use Rattle.lp_core.specs.Elimination.{IsRest, IsLifted, factor_of, source_of, lifted_item, lifted_items, pivot_sum, with_pivot, way}
use Rattle.lp_core.specs.Search.{IsBest, IsEmpty}
use Rattle.lp_core.proofs.Along.{abs_along, along_zero}
use Rattle.lp_core.proofs.Boxes.{first_seen, seen_more, seen_last}
use Rattle.lp_core.proofs.Duality.{dual_bounds}
use Rattle.lp_core.proofs.Fits.{at_place, sign_times}
use Rattle.lp_core.proofs.Levels.{entry_some, farkas_some, den_step, num_step, dual_step, dual_pivot, farkas_step, farkas_pivot}
use Rattle.lp_core.proofs.Lift.{on_plane, row_lifted, value_lifted, multiplier_not_negative}
use Rattle.lp_core.proofs.Smaller.{IsStep, source_seen, source_within, seen_within, seen_eliminated, levels, few, own_small, line_small, objective_small, size_small}
use Rattle.lp_core.proofs.Steps.{factor_small}
use Rattle.lp_core.proofs.Sums.{inner_sum, inner_sides, line_sum_push, line_sides_push, factor_positive}

at_least_zero : (a : ℤ) → pos 0 <ℤ a → pos 0 ≤ℤ a
at_least_zero a h = omega (arith, ints)

moved_over : (a b d : ℤ) → a ≡ b -ℤ d → b ≡ a +ℤ d
moved_over a b d e = omega (arith, ints)

-- the size of a sum
abs_total_each : {A : Type 0} (f : A → ℤ) (m : ℕ) (xs : List A) → AllByRecursion (λ x. unsigned_abs (f x) ≤ m) xs → unsigned_abs (total_by f xs) ≤ length xs * m
abs_total_each f m [] h = omega arith
abs_total_each f m (x ∷ xs) h = let s = abs_sum (f x) (total_by f xs) m (length xs * m) h.0 (abs_total_each f m xs h.1) in omega (arith, s)

abs_total : {A : Type 0} (f : A → ℤ) (m : ℕ) (xs : List A) → All (λ x. unsigned_abs (f x) ≤ m) xs → unsigned_abs (total_by f xs) ≤ length xs * m
abs_total f m xs h = abs_total_each f m xs (recursion_from_All (λ x. unsigned_abs (f x) ≤ m) xs h)

module _ (P : Reduced) (o : List ℤ) (r : ℕ) (p : Pivot) (Q : Reduced) (rest : List ℤ) (s : IsStep P o r p Q rest) where
  -- ---- the items of the rows
  lifted_rows : (items : List (ℕ × ℤ)) → All (λ item. item.0 < length Q.lines) items → All (λ item. item.0 < length P.lines) (lifted_items p P.lines P.live r items)
  lifted_rows items h = All-map (λ (item : ℕ × ℤ). item.0 < length P.lines) (lifted_item p P.lines P.live r) items (λ k d l. source_within P o r p Q rest s (get_or items k d).0 (h k d l))

  lifted_seen : (items : List (ℕ × ℤ)) → All (λ item. is_seen P.live r item.0 ≡ true) (lifted_items p P.lines P.live r items)
  lifted_seen items = All-map (λ (item : ℕ × ℤ). is_seen P.live r item.0 ≡ true) (lifted_item p P.lines P.live r) items (λ k d l. source_seen P o r p Q rest s (get_or items k d).0)

  lifted_not_negative : (items : List (ℕ × ℤ)) → All (λ item. pos 0 ≤ℤ item.1) items → All (λ item. pos 0 ≤ℤ item.1) (lifted_items p P.lines P.live r items)
  lifted_not_negative items h = All-map (λ (item : ℕ × ℤ). pos 0 ≤ℤ item.1) (lifted_item p P.lines P.live r) items
      (λ k d l. let x = line_at P.lines (source_of p P.live r (get_or items k d).0) in
      product_at_least_zero (factor_of p x) (get_or items k d).1 (at_least_zero (factor_of p x) (factor_positive p x)) (h k d l))

  -- ---- their sums
  module _ (q small : List ℤ) (is : IsRest p q small) (items : List (ℕ × ℤ)) (v d w : ℤ) (wanted : w ≡ d *ℤ entry q p.place) (dual : IsDual all_seen Q.lines small items v d) where
    pub multiplier : ℤ
    multiplier = p.sign *ℤ (w -ℤ pivot_sum p P.lines P.live r items)

    lifted_sum : (k : ℕ) → k < 3 → line_sum P.lines k (lifted_items p P.lines P.live r items) ≡ (p.size *ℤ d) *ℤ entry q k -ℤ (p.sign *ℤ (w -ℤ pivot_sum p P.lines P.live r items)) *ℤ entry p.line.c k
    lifted_sum k l =
        let c = pivot_sum p P.lines P.live r items in
        moved_over (line_sum Q.lines k items) (line_sum P.lines k (lifted_items p P.lines P.live r items)) ((p.sign *ℤ c) *ℤ entry p.line.c k) (inner_sum p P.lines P.live r Q.lines s.each items dual.rows k l)
        ∙ ap (λ z. z +ℤ (p.sign *ℤ c) *ℤ entry p.line.c k) (dual.entries k l ∙ ap (λ z. d *ℤ z) (is k l))
        ∙ ring (d ∷ p.size ∷ entry q k ∷ p.sign ∷ entry q p.place ∷ entry p.line.c k ∷ c ∷ [])
        (var 0 ⊗ (var 1 ⊗ var 2 ⊖ (var 3 ⊗ var 4) ⊗ var 5) ⊕ (var 3 ⊗ var 6) ⊗ var 5)
        ((var 1 ⊗ var 0) ⊗ var 2 ⊖ (var 3 ⊗ (var 0 ⊗ var 4 ⊖ var 6)) ⊗ var 5) refl
        ∙ ap (λ z. (p.size *ℤ d) *ℤ entry q k -ℤ (p.sign *ℤ (z -ℤ c)) *ℤ entry p.line.c k) (sym wanted)

    lifted_sides : line_sides P.lines (lifted_items p P.lines P.live r items) ≤ℤ ((v +ℤ (p.sign *ℤ w) *ℤ p.line.h) -ℤ (p.sign *ℤ (w -ℤ pivot_sum p P.lines P.live r items)) *ℤ p.line.h)
    lifted_sides =
        let c = pivot_sum p P.lines P.live r items in
        let e = moved_over (line_sides Q.lines items) (line_sides P.lines (lifted_items p P.lines P.live r items)) ((p.sign *ℤ c) *ℤ p.line.h) (inner_sides p P.lines P.live r Q.lines s.each items dual.rows) in
        let f : (v +ℤ (p.sign *ℤ w) *ℤ p.line.h) -ℤ (p.sign *ℤ (w -ℤ c)) *ℤ p.line.h ≡ v +ℤ (p.sign *ℤ c) *ℤ p.line.h =
        ring (v ∷ p.sign ∷ w ∷ p.line.h ∷ c ∷ []) ((var 0 ⊕ (var 1 ⊗ var 2) ⊗ var 3) ⊖ (var 1 ⊗ (var 2 ⊖ var 4)) ⊗ var 3) (var 0 ⊕ (var 1 ⊗ var 4) ⊗ var 3) refl in
        combine (line_sides P.lines (lifted_items p P.lines P.live r items)) (line_sides Q.lines items) v ((p.sign *ℤ c) *ℤ p.line.h) _ e dual.sides f
      where
        combine : (a b v t z : ℤ) → a ≡ b +ℤ t → b ≤ℤ v → z ≡ v +ℤ t → a ≤ℤ z
        combine a b v t z e h f = omega (arith, ints)

    -- the whole sums
    module _ (seen : ℕ → Bool) (old : (l : ℕ) → is_seen P.live r l ≡ true → seen l ≡ true) (last : seen r ≡ true) (num : List ℤ) (den : ℤ) (met : IsMet (is_seen P.live r) P.lines num den)
        (broken : (p.line.h *ℤ den) <ℤ along p.line.c num) (best : ((v +ℤ (p.sign *ℤ w) *ℤ p.line.h) *ℤ den) ≤ℤ ((p.size *ℤ d) *ℤ along q num)) where
      not_negative : pos 0 ≤ℤ (p.sign *ℤ (w -ℤ pivot_sum p P.lines P.live r items))
      not_negative = multiplier_not_negative (is_seen P.live r) P.lines p.line.c q p.line.h (lifted_items p P.lines P.live r items) num den
          (p.sign *ℤ (w -ℤ pivot_sum p P.lines P.live r items)) (v +ℤ (p.sign *ℤ w) *ℤ p.line.h) (p.size *ℤ d) met (lifted_rows items dual.rows) (lifted_seen items) (lifted_not_negative items dual.not_negative) lifted_sum lifted_sides broken best

      pub whole_dual : IsDual seen P.lines q (with_pivot p P.lines P.live r w items) (v +ℤ (p.sign *ℤ w) *ℤ p.line.h) (p.size *ℤ d)
      whole_dual =
          let j = lifted_items p P.lines P.live r items in
          let m = p.sign *ℤ (w -ℤ pivot_sum p P.lines P.live r items) in
          let lines = P.lines in
          record {
            rows = All-push (λ (item : ℕ × ℤ). item.0 < length lines) j (r, m) (lifted_rows items dual.rows) s.within;
            seen_rows = All-push (λ (item : ℕ × ℤ). seen item.0 ≡ true) j (r, m) (λ k e l. old (get_or j k e).0 (lifted_seen items k e l)) last;
            not_negative = All-push (λ (item : ℕ × ℤ). pos 0 ≤ℤ item.1) j (r, m) (lifted_not_negative items dual.not_negative) not_negative;
            entries = λ k l.
                line_sum_push lines k j r m ∙ ap (λ (x : Line). line_sum lines k j +ℤ m *ℤ entry x.c k) (sym s.line) ∙ ap (λ z. z +ℤ m *ℤ entry p.line.c k) (lifted_sum k l)
                ∙ ring (((p.size *ℤ d) *ℤ entry q k) ∷ (m *ℤ entry p.line.c k) ∷ []) ((var 0 ⊖ var 1) ⊕ var 1) (var 0) refl;
            sides = whole_sides _ (line_sides lines j) (m *ℤ p.line.h) (v +ℤ (p.sign *ℤ w) *ℤ p.line.h) (line_sides_push lines j r m ∙ ap (λ (x : Line). line_sides lines j +ℤ m *ℤ x.h) (sym s.line)) lifted_sides;
          }
        where
          whole_sides : (a b t z : ℤ) → a ≡ b +ℤ t → b ≤ℤ (z -ℤ t) → a ≤ℤ z
          whole_sides a b t z e h = omega (arith, ints)

  -- ---- sizes
  few_items : (items : List (ℕ × ℤ)) (count most more w : ℕ) (wanted : ℤ) → All (λ item. item.0 < length Q.lines) items → AreFew count most items → entry_most (suc (level Q.live)) * most ≤ more
      → w + count * (most * entry_most (suc (level Q.live))) ≤ more → unsigned_abs wanted ≤ w → AreFew (suc count) more (with_pivot p P.lines P.live r wanted items)
  few_items items count most more w wanted rows h a b small =
      let m = entry_most (suc (level Q.live)) in
      let j = lifted_items p P.lines P.live r items in
      let c = pivot_sum p P.lines P.live r items in
      let times : All (λ (item : ℕ × ℤ). unsigned_abs item.1 ≤ more) j =
      All-map (λ (item : ℕ × ℤ). unsigned_abs item.1 ≤ more) (lifted_item p P.lines P.live r) items (λ k d l.
      let x = line_at P.lines (source_of p P.live r (get_or items k d).0) in
      let y = abs_product (factor_of p x) (get_or items k d).1 m most (factor_small p x m (entry_some (suc (level Q.live))) (size_small P o r p Q rest s)) (h.small k d l) in
      omega (arith, y, a)) in
      let sum : unsigned_abs c ≤ length items * (most * m) =
      abs_total (λ (item : ℕ × ℤ). item.1 *ℤ entry (line_at P.lines (source_of p P.live r item.0)).c p.place) (most * m) items (λ k d l.
      let i = source_of p P.live r (get_or items k d).0 in
      abs_product (get_or items k d).1 (entry (line_at P.lines i).c p.place) most m (h.small k d l)
      (at_place m p.place (line_at P.lines i).c p.inside (line_small P o r p Q rest s i (source_within P o r p Q rest s (get_or items k d).0 (rows k d l))).entries)) in
      let scaled : length items * (most * m) ≤ count * (most * m) = mul-le (length items) (most * m) count (most * m) h.few (omega arith) in
      let difference = abs_difference wanted c w (count * (most * m)) small (omega (arith, sum, scaled)) in
      let last = sign_times p (wanted -ℤ c) (w + count * (most * m)) difference in
      record {
        few = omega (arith, h.few, length-append j ((r, p.sign *ℤ (wanted -ℤ c)) ∷ []), length-map items (lifted_item p P.lines P.live r));
        small = All-push (λ (item : ℕ × ℤ). unsigned_abs item.1 ≤ more) j (r, p.sign *ℤ (wanted -ℤ c)) times (omega (arith, last, b));
      }

  num_small : (num lifted : List ℤ) (den : ℤ) → AreAtMost (num_most (level Q.live)) num → unsigned_abs den ≤ den_most (level Q.live) → IsLifted p num den lifted → AreAtMost (num_most (suc (level Q.live))) lifted
  num_small num lifted den h d is = record { first = part 0 (lit< tt); second = part 1 (lit< tt); third = part 2 (lit< tt) }
    where
      part : (k : ℕ) → k < 3 → unsigned_abs (entry lifted k) ≤ num_most (suc (level Q.live))
      part k l3 =
          let n = level Q.live in
          let m = entry_most (suc n) in
          let own = own_small P o r p Q rest s in
          let plain = abs_product p.size (entry num k) m (num_most n) (size_small P o r p Q rest s) (at_place (num_most n) k num l3 h) in
          let side = abs_product p.line.h den (side_most (suc n)) (den_most n) own.side d in
          let product = abs_along p.line.c num m (num_most n) own.entries h in
          let far = sign_times p (p.line.h *ℤ den -ℤ along p.line.c num) (side_most (suc n) * den_most n + 3 * (m * num_most n)) (abs_difference (p.line.h *ℤ den) (along p.line.c num) (side_most (suc n) * den_most n) (3 * (m * num_most n)) side product) in
          let sum = abs_sum (p.size *ℤ entry num k) (way p num den) (m * num_most n) (side_most (suc n) * den_most n + 3 * (m * num_most n)) plain far in
          by_case (nat_eq k p.place) refl plain sum (num_step n (few P o r p Q rest s))
        where
          by_case : (b : Bool) → nat_eq k p.place ≡ b → unsigned_abs (p.size *ℤ entry num k) ≤ entry_most (suc (level Q.live)) * num_most (level Q.live)
              → unsigned_abs (p.size *ℤ entry num k +ℤ way p num den) ≤ entry_most (suc (level Q.live)) * num_most (level Q.live) + (side_most (suc (level Q.live)) * den_most (level Q.live) + 3 * (entry_most (suc (level Q.live)) * num_most (level Q.live)))
              → entry_most (suc (level Q.live)) * num_most (level Q.live) + (side_most (suc (level Q.live)) * den_most (level Q.live) + 3 * (entry_most (suc (level Q.live)) * num_most (level Q.live))) ≤ num_most (suc (level Q.live))
              → unsigned_abs (entry lifted k) ≤ num_most (suc (level Q.live))
          by_case true g plain sum step =
              let e : k ≡ p.place = grind (arith, nat_tests) in
              let same : entry lifted k ≡ p.size *ℤ entry num k +ℤ way p num den = ap (λ i. entry lifted i) e ∙ is.moved ∙ ap (λ i. p.size *ℤ entry num i +ℤ way p num den) (sym e) in
              subst (λ z. unsigned_abs z ≤ num_most (suc (level Q.live))) (sym same) (omega (arith, sum, step))
          by_case false g plain sum step =
              let e : k ≢ p.place = grind (arith, nat_tests) in
              subst (λ z. unsigned_abs z ≤ num_most (suc (level Q.live))) (sym (is.others k l3 e)) (omega (arith, plain, step))

  -- ---- the optimum
  pub best_back : (old inner new : Optimum) → IsBest (is_seen P.live r) P o old → (p.line.h *ℤ old.den) <ℤ along p.line.c old.num → IsBest all_seen Q rest inner
      → IsLifted p inner.num inner.den new.num → new.den ≡ p.size *ℤ inner.den → new.items ≡ with_pivot p P.lines P.live r (inner.den *ℤ entry o p.place) inner.items
      → IsBest (is_seen P.live (r + 1)) P o new
  best_back old inner new b broken i lifted den items =
      let lines = P.lines in
      let n = level Q.live in
      let w = inner.den *ℤ entry o p.place in
      let d = p.size *ℤ inner.den in
      let met : (l : ℕ) → l < length lines → is_seen P.live r l ≡ true → along (line_at lines l).c new.num ≤ℤ ((line_at lines l).h *ℤ d) =
      λ l h e. row_lifted p inner.num inner.den new.num (line_at lines l) (line_at Q.lines l) lifted (seen_eliminated P o r p Q rest s l h e) (i.met.each l (seen_within P o r p Q rest s l h e) refl) in
      let positive : pos 0 <ℤ d = product_above_zero p.size inner.den p.positive i.met.positive in
      let v : along o new.num ≡ along rest inner.num +ℤ (p.sign *ℤ w) *ℤ p.line.h = value_lifted p inner.num inner.den new.num o rest lifted s.is_rest in
      let bound : (old.den *ℤ along o new.num) ≤ℤ (along o old.num *ℤ d) = dual_bounds (is_seen P.live r) lines o old.items (along o old.num) old.den new.num d b.dual (record { positive = positive; each = met }) in
      let best : ((along rest inner.num +ℤ (p.sign *ℤ w) *ℤ p.line.h) *ℤ old.den) ≤ℤ (d *ℤ along o old.num) =
      subst (λ z. (z *ℤ old.den) ≤ℤ (d *ℤ along o old.num)) v (turned (along o new.num) old.den (along o old.num) d bound) in
      let dual : IsDual (is_seen P.live (r + 1)) lines o (with_pivot p lines P.live r w inner.items) (along rest inner.num +ℤ (p.sign *ℤ w) *ℤ p.line.h) d =
      whole_dual o rest s.is_rest inner.items (along rest inner.num) inner.den w refl i.dual (is_seen P.live (r + 1)) (λ l e. seen_more P.live r l e) (first_seen P.live (r + 1) r (omega arith)) old.num old.den b.met broken best in
      let size : unsigned_abs d ≤ entry_most (suc n) * den_most n = abs_product p.size inner.den (entry_most (suc n)) (den_most n) (size_small P o r p Q rest s) i.den in
      let wanted : unsigned_abs w ≤ den_most n * objective_most (suc n) = abs_product inner.den (entry o p.place) (den_most n) (objective_most (suc n)) i.den (at_place (objective_most (suc n)) p.place o p.inside (objective_small P o r p Q rest s)) in
      let l = levels P o r p Q rest s in
      let f = few P o r p Q rest s in
      record {
        met = subst (λ z. IsMet (is_seen P.live (r + 1)) lines new.num z) (sym den) (record { positive = positive; each = λ k h e. by_row d met k h (seen_last P.live r k e) });
        dual = subst (λ z. IsDual (is_seen P.live (r + 1)) lines o new.items (along o new.num) z) (sym den)
            (subst (λ z. IsDual (is_seen P.live (r + 1)) lines o z (along o new.num) d) (sym items)
            (subst (λ z. IsDual (is_seen P.live (r + 1)) lines o (with_pivot p lines P.live r w inner.items) z d) (sym v) dual));
        num = subst (λ k. AreAtMost (num_most k) new.num) (sym l) (num_small inner.num new.num inner.den i.num i.den lifted);
        den = subst (λ k. unsigned_abs new.den ≤ den_most k) (sym l) (subst (λ z. unsigned_abs z ≤ den_most (suc n)) (sym den) (omega (arith, size, den_step n f)));
        few = subst (λ k. AreFew k (dual_most k) new.items) (sym l) (subst (λ z. AreFew (suc n) (dual_most (suc n)) z) (sym items)
            (few_items inner.items n (dual_most n) (dual_most (suc n)) (den_most n * objective_most (suc n)) w i.dual.rows i.few (dual_step n f) (dual_pivot n f) wanted));
      }
    where
      turned : (v d u e : ℤ) → (d *ℤ v) ≤ℤ (u *ℤ e) → (v *ℤ d) ≤ℤ (e *ℤ u)
      turned v d u e h = subst (λ z. z ≤ℤ (e *ℤ u)) (swapped d v) (subst (λ z. (d *ℤ v) ≤ℤ z) (swapped u e) h)
        where
          swapped : (a b : ℤ) → a *ℤ b ≡ b *ℤ a
          swapped a b = ring (a ∷ b ∷ []) (var 0 ⊗ var 1) (var 1 ⊗ var 0) refl

      by_row : (d : ℤ) → ((l : ℕ) → l < length P.lines → is_seen P.live r l ≡ true → along (line_at P.lines l).c new.num ≤ℤ ((line_at P.lines l).h *ℤ (p.size *ℤ inner.den)))
          → (k : ℕ) → k < length P.lines → (is_seen P.live r k ≡ true) ⊎ (k ≡ r) → along (line_at P.lines k).c new.num ≤ℤ ((line_at P.lines k).h *ℤ (p.size *ℤ inner.den))
      by_row d met k h (inl e) = met k h e
      by_row d met k h (inr e) =
          subst (λ j. along (line_at P.lines j).c new.num ≤ℤ ((line_at P.lines j).h *ℤ (p.size *ℤ inner.den))) (sym e)
          (subst (λ (x : Line). along x.c new.num ≤ℤ (x.h *ℤ (p.size *ℤ inner.den))) s.line (at_most_from_same _ _ (on_plane p inner.num inner.den new.num lifted)))

  -- ---- no point
  pub empty_back : (old : Optimum) (items lifted : List (ℕ × ℤ)) → IsBest (is_seen P.live r) P o old → (p.line.h *ℤ old.den) <ℤ along p.line.c old.num → IsEmpty Q items
      → lifted ≡ with_pivot p P.lines P.live r (pos 0) items → IsEmpty P lifted
  empty_back old items lifted b broken i is =
      let lines = P.lines in
      let n = level Q.live in
      let f = few P o r p Q rest s in
      let l = levels P o r p Q rest s in
      let none : IsRest p [] [] = λ k l. sym (ring (p.size ∷ p.sign ∷ entry p.line.c k ∷ []) (var 0 ⊗ lit (pos 0) ⊖ (var 1 ⊗ lit (pos 0)) ⊗ var 2) (lit (pos 0)) refl) in
      let best : ((negsuc 0 +ℤ (p.sign *ℤ pos 0) *ℤ p.line.h) *ℤ old.den) ≤ℤ ((p.size *ℤ pos 0) *ℤ along [] old.num) =
      below old.den ((negsuc 0 +ℤ (p.sign *ℤ pos 0) *ℤ p.line.h) *ℤ old.den) ((p.size *ℤ pos 0) *ℤ along [] old.num) b.met.positive
      (ring (p.sign ∷ p.line.h ∷ old.den ∷ []) ((lit (negsuc 0) ⊕ (var 0 ⊗ lit (pos 0)) ⊗ var 1) ⊗ var 2) (lit (pos 0) ⊖ var 2) refl)
      (ring (p.size ∷ along [] old.num ∷ []) ((var 0 ⊗ lit (pos 0)) ⊗ var 1) (lit (pos 0)) refl) in
      let dual : IsDual all_seen lines [] (with_pivot p lines P.live r (pos 0) items) (negsuc 0 +ℤ (p.sign *ℤ pos 0) *ℤ p.line.h) (p.size *ℤ pos 0) =
      whole_dual [] [] none items (negsuc 0) (pos 0) (pos 0) refl i.none all_seen (λ l e. refl) refl old.num old.den b.met broken best in
      let den : p.size *ℤ pos 0 ≡ pos 0 = ring (p.size ∷ []) (var 0 ⊗ lit (pos 0)) (lit (pos 0)) refl in
      let side : negsuc 0 +ℤ (p.sign *ℤ pos 0) *ℤ p.line.h ≡ negsuc 0 = ring (p.sign ∷ p.line.h ∷ []) (lit (negsuc 0) ⊕ (var 0 ⊗ lit (pos 0)) ⊗ var 1) (lit (negsuc 0)) refl in
      record {
        none = subst (λ z. IsDual all_seen lines [] z (negsuc 0) (pos 0)) (sym is)
            (subst (λ z. IsDual all_seen lines [] (with_pivot p lines P.live r (pos 0) items) z (pos 0)) side
            (subst (λ z. IsDual all_seen lines [] (with_pivot p lines P.live r (pos 0) items) (negsuc 0 +ℤ (p.sign *ℤ pos 0) *ℤ p.line.h) z) den dual));
        few = subst (λ k. AreFew (k + 1) (farkas_most k) lifted) (sym l) (subst (λ z. AreFew (suc n + 1) (farkas_most (suc n)) z) (sym is)
            (more _ (few_items items (n + 1) (farkas_most n) (farkas_most (suc n)) 0 (pos 0) i.none.rows i.few (farkas_step n f) (omega (arith, farkas_pivot n f)) (lit≤ tt))));
      }
    where
      below : (d a b : ℤ) → pos 0 <ℤ d → a ≡ pos 0 -ℤ d → b ≡ pos 0 → a ≤ℤ b
      below d a b h e f = omega (arith, ints)

      more : (items : List (ℕ × ℤ)) → AreFew (suc (level Q.live + 1)) (farkas_most (suc (level Q.live))) items → AreFew (suc (level Q.live) + 1) (farkas_most (suc (level Q.live))) items
      more items h = record { few = omega (arith, h.few); small = h.small }

-- a row that the point meets
pub met_more : (P : Reduced) (o : List ℤ) (r : ℕ) (b : Optimum) → IsBest (is_seen P.live r) P o b → along (line_at P.lines r).c b.num ≤ℤ ((line_at P.lines r).h *ℤ b.den) → IsBest (is_seen P.live (r + 1)) P o b
met_more P o r b h m = record {
  met = record { positive = h.met.positive; each = λ l w e. by_row l w (seen_last P.live r l e) };
  dual = record {
    rows = h.dual.rows;
    seen_rows = λ k d l. seen_more P.live r (get_or b.items k d).0 (h.dual.seen_rows k d l);
    not_negative = h.dual.not_negative;
    entries = h.dual.entries;
    sides = h.dual.sides;
  };
  num = h.num;
  den = h.den;
  few = h.few;
}
  where
    by_row : (l : ℕ) → l < length P.lines → (is_seen P.live r l ≡ true) ⊎ (l ≡ r) → along (line_at P.lines l).c b.num ≤ℤ ((line_at P.lines l).h *ℤ b.den)
    by_row l w (inl e) = h.met.each l w e
    by_row l w (inr e) = subst (λ j. along (line_at P.lines j).c b.num ≤ℤ ((line_at P.lines j).h *ℤ b.den)) (sym e) m

-- a row without variables that the point breaks
pub only_empty : (P : Reduced) (r : ℕ) (num : List ℤ) (den : ℤ) → r < length P.lines → pos 0 <ℤ den → ((k : ℕ) → k < 3 → entry (line_at P.lines r).c k ≡ pos 0)
    → ((line_at P.lines r).h *ℤ den) <ℤ along (line_at P.lines r).c num → IsEmpty P ((r, pos 1) ∷ [])
only_empty P r num den within positive zeros broken =
    let lines = P.lines in
    let x = line_at lines r in
    let n = level P.live in
    let one : (F : ℕ × ℤ → Type 0) → F (r, pos 1) → All F ((r, pos 1) ∷ []) = λ F a. All-cons F (r, pos 1) [] a (All-nil F) in
    let less : (x.h *ℤ den) <ℤ pos 0 = subst (λ z. (x.h *ℤ den) <ℤ z) (along_zero x.c num zeros) broken in
    record {
      none = record {
        rows = one (λ item. item.0 < length lines) within;
        seen_rows = one (λ item. all_seen item.0 ≡ true) refl;
        not_negative = one (λ item. pos 0 ≤ℤ item.1) (omega (arith, ints));
        entries = λ k l. ap (λ z. pos 1 *ℤ z +ℤ pos 0) (zeros k l);
        sides = below x.h (negative x.h den positive less);
      };
      few = record { few = omega arith; small = one (λ item. unsigned_abs item.1 ≤ farkas_most n) (farkas_some n) };
    }
  where
    negative : (h d : ℤ) → pos 0 <ℤ d → (h *ℤ d) <ℤ pos 0 → h ≤ℤ negsuc 0
    negative (pos m) d p l = let a = product_at_least_zero (pos m) d (omega (arith, ints)) (at_least_zero d p) in absurd (omega (arith, ints, a, l))
    negative (negsuc m) d p l = omega (arith, ints)

    below : (h : ℤ) → h ≤ℤ negsuc 0 → (pos 1 *ℤ h +ℤ pos 0) ≤ℤ negsuc 0
    below h l = subst (λ z. z ≤ℤ negsuc 0) (ring (h ∷ []) (var 0) (lit (pos 1) ⊗ var 0 ⊕ lit (pos 0)) refl) l
