-- The corner of a box, variable by variable.
use Rattle.std.proofs.Common.{◌≡◌, ◌≢◌, ℕ, zero, suc, ◌+◌, ◌*◌, ◌<◌, ◌≤◌, List, [], ◌∷◌, ◌++◌, length, set, refl, sym, ap, subst, ◌∙◌, arith, lit<, lit≤, below_more, ◌⊎◌, inl, inr}
use Rattle.std.specs.Prelude.{ℤ, pos, negsuc, ◌+ℤ◌, ◌-ℤ◌, ◌*ℤ◌, ◌<ℤ◌, ◌≤ℤ◌, All, Bool, true, false, slice_index_or, nat_eq}
use Rattle.std.specs.Int.RustNames.{unsigned_abs}
use Rattle.std.proofs.lemmas.Int.{ints}
use Rattle.std.proofs.lemmas.Bool.Decides.{nat_tests}
use Rattle.std.proofs.lemmas.List.{get_or-set_same, get_or-set_other, length-append, length-set}
use Rattle.std.proofs.lemmas.List.Elements.{All-cons, All-nil, All-push}
use Rattle.exact_algebra.specs.Poly.{var, lit, ◌⊕◌, ◌⊖◌, ◌⊗◌}
use Rattle.exact_algebra.proofs.Normal.{ring}
use Rattle.lp_cert.specs.Program.{entry, axis}
use Rattle.lp_core.specs.declared.reduced.Line.{Line}
use Rattle.lp_core.specs.Reduced.{Reduced}
use Rattle.lp_core.specs.declared.corner.End.{End}
use Rattle.lp_core.specs.Lines.{along, line_at, line_sum, line_sides, is_seen, all_seen}
use Rattle.lp_core.specs.Corner.{IsEnd, IsUpperEnd, IsLowerEnd, upper_side, lower_side}
use Rattle.lp_core.specs.Sizes.{live_below, level, side_most, objective_most, dual_most, farkas_most}
use Rattle.lp_core.specs.Search.{HasBox, IsReduced, IsBest, IsEmpty}
use Rattle.lp_core.proofs.Along.{along_moved, along_axis}
use Rattle.lp_core.proofs.Boxes.{axis_same, axis_other, cancel, upper_seen, lower_seen, seen_cases}
use Rattle.lp_core.proofs.Fits.{at_place}
use Rattle.lp_core.proofs.Levels.{level_is, level_some, live_below_next, live_below_same, side_num, objective_dual, farkas_some, den_some}
use Rattle.lp_core.proofs.Sums.{line_sum_push, line_sides_push}

-- the corner of the first k variables
pub record IsCornerTo (k : ℕ) (p : Reduced) (o num : List ℤ) (items : List (ℕ × ℤ)) : Type 0 where
  pub three : length num ≡ 3
  pub within : (i : ℕ) → i < k → slice_index_or p.live i false ≡ true → ((pos 0 -ℤ lower_side p.lines i) ≤ℤ entry num i) × (entry num i ≤ℤ upper_side p.lines i)
  pub later : (i : ℕ) → k ≤ i → entry num i ≡ pos 0
  pub rows : All (λ item. item.0 < length p.lines) items
  pub seen_rows : All (λ item. is_seen p.live 0 item.0 ≡ true) items
  pub not_negative : All (λ item. pos 0 ≤ℤ item.1) items
  pub entries : (i : ℕ) → i < k → line_sum p.lines i items ≡ entry o i
  pub no_entries : (i : ℕ) → k ≤ i → i < 3 → line_sum p.lines i items ≡ pos 0
  pub sides : line_sides p.lines items ≡ along o num
  pub few : length items ≤ live_below p.live k
  pub small : All (λ item. unsigned_abs item.1 ≤ dual_most (level p.live)) items
  pub num_small : (i : ℕ) → unsigned_abs (entry num i) ≤ side_most (level p.live)

along_none : (o : List ℤ) → along o (pos 0 ∷ pos 0 ∷ pos 0 ∷ []) ≡ pos 0
along_none o =
    along_moved o (pos 0 ∷ pos 0 ∷ pos 0 ∷ []) (pos 0 ∷ pos 0 ∷ pos 0 ∷ []) (pos 0) (pos 0) 0 (lit< tt) refl (λ k l n. by_place k l)
    ∙ ring (along o (pos 0 ∷ pos 0 ∷ pos 0 ∷ []) ∷ entry o 0 ∷ []) (lit (pos 0) ⊗ var 0 ⊕ var 1 ⊗ lit (pos 0)) (lit (pos 0)) refl
  where
    by_place : (k : ℕ) → k < 3 → entry (pos 0 ∷ pos 0 ∷ pos 0 ∷ []) k ≡ pos 0 *ℤ entry (pos 0 ∷ pos 0 ∷ pos 0 ∷ []) k
    by_place zero l = refl
    by_place (suc zero) l = refl
    by_place (suc (suc zero)) l = refl
    by_place (suc (suc (suc k))) l = refl

no_part : (i : ℕ) → entry (pos 0 ∷ pos 0 ∷ pos 0 ∷ []) i ≡ pos 0
no_part zero = refl
no_part (suc zero) = refl
no_part (suc (suc zero)) = refl
no_part (suc (suc (suc i))) = refl

pub no_corner : (p : Reduced) (o : List ℤ) → IsCornerTo 0 p o (pos 0 ∷ pos 0 ∷ pos 0 ∷ []) []
no_corner p o = record {
  three = refl;
  within = λ i l. absurd (omega (arith, l));
  later = λ i l. no_part i;
  rows = All-nil (λ (item : ℕ × ℤ). item.0 < length p.lines);
  seen_rows = All-nil (λ (item : ℕ × ℤ). is_seen p.live 0 item.0 ≡ true);
  not_negative = All-nil (λ (item : ℕ × ℤ). pos 0 ≤ℤ item.1);
  entries = λ i l. absurd (omega (arith, l));
  no_entries = λ i l m. refl;
  sides = sym (along_none o);
  few = lit≤ tt;
  small = All-nil (λ (item : ℕ × ℤ). unsigned_abs item.1 ≤ dual_most (level p.live));
  num_small = λ i. subst (λ z. unsigned_abs z ≤ side_most (level p.live)) (sym (no_part i)) (omega arith);
}

-- a variable that isn't live
pub corner_dead : (k : ℕ) (p : Reduced) (o num : List ℤ) (items : List (ℕ × ℤ)) → k < 3 → IsReduced p o → slice_index_or p.live k false ≡ false → IsCornerTo k p o num items → IsCornerTo (k + 1) p o num items
corner_dead k p o num items l q dead h = record {
  three = h.three;
  within = below_more (λ i. slice_index_or p.live i false ≡ true → ((pos 0 -ℤ lower_side p.lines i) ≤ℤ entry num i) × (entry num i ≤ℤ upper_side p.lines i)) k h.within (λ live. absurd (both (slice_index_or p.live k false) dead live));
  later = λ i m. h.later i (omega (arith, m));
  rows = h.rows;
  seen_rows = h.seen_rows;
  not_negative = h.not_negative;
  entries = below_more (λ i. line_sum p.lines i items ≡ entry o i) k h.entries (h.no_entries k (omega arith) l ∙ sym (q.dead k l dead).0);
  no_entries = λ i m n. h.no_entries i (omega (arith, m)) n;
  sides = h.sides;
  few = omega (arith, h.few, live_below_same p.live k dead);
  small = h.small;
  num_small = h.num_small;
}
  where
    both : (b : Bool) → b ≡ false → b ≡ true → ⊥
    both true e f = grind (arith, e)
    both false e f = grind (arith, f)

-- the end of a box adds the coefficient to the sum of its variable
pub end_entry : (lines : List Line) (k i : ℕ) (o : ℤ) (e : End) → k < 3 → HasBox lines k → IsEnd lines k o e → e.times *ℤ entry (line_at lines e.row).c i ≡ entry (axis k o) i
end_entry lines k i o e l b h = by_case h.which
  where
    product : (s t : ℤ) → t *ℤ s ≡ o → t *ℤ entry (axis k s) i ≡ entry (axis k o) i
    product s t f = by_place (nat_eq i k) refl
      where
        by_place : (c : Bool) → nat_eq i k ≡ c → t *ℤ entry (axis k s) i ≡ entry (axis k o) i
        by_place true g =
            let m : i ≡ k = grind (arith, nat_tests) in
            subst (λ j. t *ℤ entry (axis k s) j ≡ entry (axis k o) j) (sym m) (ap (λ z. t *ℤ z) (axis_same k s l) ∙ f ∙ sym (axis_same k o l))
        by_place false g =
            let m : i ≢ k = grind (arith, nat_tests) in
            ap (λ z. t *ℤ z) (axis_other k i s m) ∙ ring (t ∷ []) (var 0 ⊗ lit (pos 0)) (lit (pos 0)) refl ∙ sym (axis_other k i o m)

    by_case : IsUpperEnd lines k o e ⊎ IsLowerEnd lines k o e → e.times *ℤ entry (line_at lines e.row).c i ≡ entry (axis k o) i
    by_case (inl u) =
        ap (λ r. e.times *ℤ entry (line_at lines r).c i) u.row ∙ ap (λ c. e.times *ℤ entry c i) b.upper
        ∙ product (pos 1) e.times (ring (e.times ∷ []) (var 0 ⊗ lit (pos 1)) (var 0) refl ∙ u.times)
    by_case (inr u) =
        ap (λ r. e.times *ℤ entry (line_at lines r).c i) u.row ∙ ap (λ c. e.times *ℤ entry c i) b.lower
        ∙ product (negsuc 0) e.times (ap (λ t. t *ℤ negsuc 0) u.times ∙ ring (o ∷ []) ((lit (pos 0) ⊖ var 0) ⊗ lit (negsuc 0)) (var 0) refl)

end_side : (lines : List Line) (k : ℕ) (o : ℤ) (e : End) → IsEnd lines k o e → e.times *ℤ (line_at lines e.row).h ≡ o *ℤ e.at
end_side lines k o e h = by_case h.which
  where
    by_case : IsUpperEnd lines k o e ⊎ IsLowerEnd lines k o e → e.times *ℤ (line_at lines e.row).h ≡ o *ℤ e.at
    by_case (inl u) = ap (λ r. e.times *ℤ (line_at lines r).h) u.row ∙ ap (λ t. t *ℤ upper_side lines k) u.times ∙ ap (λ z. o *ℤ z) (sym u.at)
    by_case (inr u) =
        ap (λ r. e.times *ℤ (line_at lines r).h) u.row ∙ ap (λ t. t *ℤ lower_side lines k) u.times
        ∙ ring (o ∷ lower_side lines k ∷ []) ((lit (pos 0) ⊖ var 0) ⊗ var 1) (var 0 ⊗ (lit (pos 0) ⊖ var 1)) refl ∙ ap (λ z. o *ℤ z) (sym u.at)

end_facts : (lines : List Line) (k : ℕ) (o : ℤ) (e : End) (m h : ℕ) → IsEnd lines k o e → unsigned_abs o ≤ m → unsigned_abs (upper_side lines k) ≤ h → unsigned_abs (lower_side lines k) ≤ h
    → ((pos 0 -ℤ lower_side lines k) ≤ℤ e.at) × (e.at ≤ℤ upper_side lines k) × (pos 0 ≤ℤ e.times) × (unsigned_abs e.times ≤ m) × (unsigned_abs e.at ≤ h) × ((e.row ≡ 2 * k) ⊎ (e.row ≡ 2 * k + 1))
end_facts lines k o e m h x small upper lower = by_case x.which
  where
    by_case : IsUpperEnd lines k o e ⊎ IsLowerEnd lines k o e
        → ((pos 0 -ℤ lower_side lines k) ≤ℤ e.at) × (e.at ≤ℤ upper_side lines k) × (pos 0 ≤ℤ e.times) × (unsigned_abs e.times ≤ m) × (unsigned_abs e.at ≤ h) × ((e.row ≡ 2 * k) ⊎ (e.row ≡ 2 * k + 1))
    by_case (inl u) = (omega (arith, ints, x.some, u.at), omega (arith, ints, u.at), omega (arith, ints, u.times, u.sign), subst (λ z. unsigned_abs z ≤ m) (sym u.times) small, subst (λ z. unsigned_abs z ≤ h) (sym u.at) upper, inl u.row)
    by_case (inr u) = (omega (arith, ints, u.at), omega (arith, ints, x.some, u.at), omega (arith, ints, u.times, u.sign), omega (arith, ints, u.times, small), omega (arith, ints, u.at, lower), inr u.row)

-- a variable that is live
pub corner_live : (k : ℕ) (p : Reduced) (o num : List ℤ) (items : List (ℕ × ℤ)) (e : End) → k < 3 → IsReduced p o → slice_index_or p.live k false ≡ true → IsEnd p.lines k (entry o k) e
    → IsCornerTo k p o num items → IsCornerTo (k + 1) p o (set num k e.at) (items ++ (e.row, e.times) ∷ [])
corner_live k p o num items e l q live is h =
    let lines = p.lines in
    let n = level p.live in
    let some : 1 ≤ n = level_some p.live k l live in
    let box = q.boxes k l live in
    let m = objective_most n in
    let f = end_facts lines k (entry o k) e m (side_most n) is (at_place m k o l q.objective) (q.lines (2 * k) (omega (arith, box.within))).side (q.lines (2 * k + 1) box.within).side in
    let at_k : entry (set num k e.at) k ≡ e.at = get_or-set_same num k e.at (pos 0) (omega (arith, h.three, l)) in
    let others : (i : ℕ) → i ≢ k → entry (set num k e.at) i ≡ entry num i = λ i n. get_or-set_other num k i e.at (pos 0) n in
    record {
      three = length-set num k e.at ∙ h.three;
      within = below_more (λ i. slice_index_or p.live i false ≡ true → ((pos 0 -ℤ lower_side lines i) ≤ℤ entry (set num k e.at) i) × (entry (set num k e.at) i ≤ℤ upper_side lines i)) k
          (λ i j live_i. subst (λ z. ((pos 0 -ℤ lower_side lines i) ≤ℤ z) × (z ≤ℤ upper_side lines i)) (sym (others i (omega (arith, j)))) (h.within i j live_i))
          (λ live_k. subst (λ z. ((pos 0 -ℤ lower_side lines k) ≤ℤ z) × (z ≤ℤ upper_side lines k)) (sym at_k) (f.0, f.1));
      later = λ i j. others i (omega (arith, j)) ∙ h.later i (omega (arith, j));
      rows = All-push (λ (item : ℕ × ℤ). item.0 < length lines) items (e.row, e.times) h.rows (exists f.5 box.within);
      seen_rows = All-push (λ (item : ℕ × ℤ). is_seen p.live 0 item.0 ≡ true) items (e.row, e.times) h.seen_rows (seen f.5);
      not_negative = All-push (λ (item : ℕ × ℤ). pos 0 ≤ℤ item.1) items (e.row, e.times) h.not_negative f.2;
      entries = below_more (λ i. line_sum lines i (items ++ (e.row, e.times) ∷ []) ≡ entry o i) k
          (λ i j. line_sum_push lines i items e.row e.times ∙ ap (λ z. line_sum lines i items +ℤ z) (end_entry lines k i (entry o k) e l box is ∙ axis_other k i (entry o k) (omega (arith, j)))
          ∙ ap (λ z. z +ℤ pos 0) (h.entries i j) ∙ ring (entry o i ∷ []) (var 0 ⊕ lit (pos 0)) (var 0) refl)
          (line_sum_push lines k items e.row e.times ∙ ap (λ z. line_sum lines k items +ℤ z) (end_entry lines k k (entry o k) e l box is ∙ axis_same k (entry o k) l)
          ∙ ap (λ z. z +ℤ entry o k) (h.no_entries k (omega arith) l) ∙ ring (entry o k ∷ []) (lit (pos 0) ⊕ var 0) (var 0) refl);
      no_entries = λ i j i3. line_sum_push lines i items e.row e.times ∙ ap (λ z. line_sum lines i items +ℤ z) (end_entry lines k i (entry o k) e l box is ∙ axis_other k i (entry o k) (omega (arith, j)))
          ∙ ap (λ z. z +ℤ pos 0) (h.no_entries i (omega (arith, j)) i3);
      sides = line_sides_push lines items e.row e.times ∙ ap (λ z. line_sides lines items +ℤ z) (end_side lines k (entry o k) e is) ∙ ap (λ z. z +ℤ entry o k *ℤ e.at) h.sides
          ∙ ring (along o num ∷ entry o k ∷ e.at ∷ []) (var 0 ⊕ var 1 ⊗ var 2) (lit (pos 1) ⊗ var 0 ⊕ var 1 ⊗ var 2) refl
          ∙ sym (along_moved o num (set num k e.at) (pos 1) e.at k l
          (at_k ∙ ring (e.at ∷ []) (var 0) (lit (pos 1) ⊗ lit (pos 0) ⊕ var 0) refl ∙ ap (λ z. pos 1 *ℤ z +ℤ e.at) (sym (h.later k (omega arith))))
          (λ i i3 n. others i n ∙ ring (entry num i ∷ []) (var 0) (lit (pos 1) ⊗ var 0) refl));
      few = omega (arith, h.few, live_below_next p.live k live, length-append items ((e.row, e.times) ∷ []));
      small = All-push (λ (item : ℕ × ℤ). unsigned_abs item.1 ≤ dual_most n) items (e.row, e.times) h.small (omega (arith, f.3, objective_dual n some));
      num_small = λ i. part (nat_eq i k) refl i at_k others f.4;
    }
  where
    exists : (e.row ≡ 2 * k) ⊎ (e.row ≡ 2 * k + 1) → 2 * k + 1 < length p.lines → e.row < length p.lines
    exists (inl r) w = omega (arith, r, w)
    exists (inr r) w = omega (arith, r, w)

    seen : (e.row ≡ 2 * k) ⊎ (e.row ≡ 2 * k + 1) → is_seen p.live 0 e.row ≡ true
    seen (inl r) = subst (λ z. is_seen p.live 0 z ≡ true) (sym r) (upper_seen p.live 0 k l live)
    seen (inr r) = subst (λ z. is_seen p.live 0 z ≡ true) (sym r) (lower_seen p.live 0 k l live)

    part : (b : Bool) → b ≡ b → (i : ℕ) → entry (set num k e.at) k ≡ e.at → ((i : ℕ) → i ≢ k → entry (set num k e.at) i ≡ entry num i) → unsigned_abs e.at ≤ side_most (level p.live) → unsigned_abs (entry (set num k e.at) i) ≤ side_most (level p.live)
    part b r i at_k others small = by_place (nat_eq i k) refl
      where
        by_place : (c : Bool) → nat_eq i k ≡ c → unsigned_abs (entry (set num k e.at) i) ≤ side_most (level p.live)
        by_place true g = let m : i ≡ k = grind (arith, nat_tests) in subst (λ j. unsigned_abs (entry (set num k e.at) j) ≤ side_most (level p.live)) (sym m) (subst (λ z. unsigned_abs z ≤ side_most (level p.live)) (sym at_k) small)
        by_place false g = let m : i ≢ k = grind (arith, nat_tests) in subst (λ z. unsigned_abs z ≤ side_most (level p.live)) (sym (others i m)) (h.num_small i)

-- the corner of all variables
pub corner_best : (p : Reduced) (o num : List ℤ) (items : List (ℕ × ℤ)) → IsReduced p o → IsCornerTo 3 p o num items → IsBest (is_seen p.live 0) p o (record { num = num; den = pos 1; items = items })
corner_best p o num items q h =
    let n = level p.live in
    record {
      met = record { positive = omega (arith, ints); each = λ l within seen. meets l (seen_cases p.live 0 l seen) };
      dual = record {
        rows = h.rows;
        seen_rows = h.seen_rows;
        not_negative = h.not_negative;
        entries = λ k l. h.entries k l ∙ ring (entry o k ∷ []) (var 0) (lit (pos 1) ⊗ var 0) refl;
        sides = omega (arith, ints, h.sides);
      };
      num = record { first = omega (arith, h.num_small 0, side_num n); second = omega (arith, h.num_small 1, side_num n); third = omega (arith, h.num_small 2, side_num n) };
      den = den_some n;
      few = record { few = subst (λ z. length items ≤ z) (sym (level_is p.live)) h.few; small = h.small };
    }
  where
    upper : (a s : ℤ) → a ≤ℤ s → (pos 1 *ℤ a) ≤ℤ (s *ℤ pos 1)
    upper a s h = subst (λ z. z ≤ℤ (s *ℤ pos 1)) (ring (a ∷ []) (var 0) (lit (pos 1) ⊗ var 0) refl) (subst (λ z. a ≤ℤ z) (ring (s ∷ []) (var 0) (var 0 ⊗ lit (pos 1)) refl) h)

    lower : (a s : ℤ) → (pos 0 -ℤ s) ≤ℤ a → (negsuc 0 *ℤ a) ≤ℤ (s *ℤ pos 1)
    lower a s h =
        let m : (pos 0 -ℤ a) ≤ℤ s = omega (arith, ints, h) in
        subst (λ z. z ≤ℤ (s *ℤ pos 1)) (ring (a ∷ []) (lit (pos 0) ⊖ var 0) (lit (negsuc 0) ⊗ var 0) refl) (subst (λ z. (pos 0 -ℤ a) ≤ℤ z) (ring (s ∷ []) (var 0) (var 0 ⊗ lit (pos 1)) refl) m)

    meets : (l : ℕ) → (l < 0) ⊎ ((k : ℕ) × (k < 3) × (slice_index_or p.live k false ≡ true) × ((l ≡ 2 * k) ⊎ (l ≡ 2 * k + 1))) → along (line_at p.lines l).c num ≤ℤ ((line_at p.lines l).h *ℤ pos 1)
    meets l (inl none) = absurd (omega (arith, none))
    meets l (inr (k, k3, live, inl e)) =
        subst (λ r. along (line_at p.lines r).c num ≤ℤ ((line_at p.lines r).h *ℤ pos 1)) (sym e)
        (subst (λ z. z ≤ℤ (upper_side p.lines k *ℤ pos 1)) (sym (ap (λ c. along c num) (q.boxes k k3 live).upper ∙ along_axis k (pos 1) num k3)) (upper (entry num k) (upper_side p.lines k) (h.within k k3 live).1))
    meets l (inr (k, k3, live, inr e)) =
        subst (λ r. along (line_at p.lines r).c num ≤ℤ ((line_at p.lines r).h *ℤ pos 1)) (sym e)
        (subst (λ z. z ≤ℤ (lower_side p.lines k *ℤ pos 1)) (sym (ap (λ c. along c num) (q.boxes k k3 live).lower ∙ along_axis k (negsuc 0) num k3)) (lower (entry num k) (lower_side p.lines k) (h.within k k3 live).0))

-- a box without points
pub empty_box : (k : ℕ) (p : Reduced) (o : List ℤ) → k < 3 → IsReduced p o → slice_index_or p.live k false ≡ true → (upper_side p.lines k +ℤ lower_side p.lines k) <ℤ pos 0 → IsEmpty p ((2 * k, pos 1) ∷ (2 * k + 1, pos 1) ∷ [])
empty_box k p o l q live less =
    let lines = p.lines in
    let n = level p.live in
    let box = q.boxes k l live in
    let some : 1 ≤ n = level_some p.live k l live in
    let both : (P : ℕ × ℤ → Type 0) → P (2 * k, pos 1) → P (2 * k + 1, pos 1) → All P ((2 * k, pos 1) ∷ (2 * k + 1, pos 1) ∷ []) =
    λ P a b. All-cons P (2 * k, pos 1) ((2 * k + 1, pos 1) ∷ []) a (All-cons P (2 * k + 1, pos 1) [] b (All-nil P)) in
    record {
      none = record {
        rows = both (λ item. item.0 < length lines) (omega (arith, box.within)) box.within;
        seen_rows = both (λ item. all_seen item.0 ≡ true) refl refl;
        not_negative = both (λ item. pos 0 ≤ℤ item.1) (omega (arith, ints)) (omega (arith, ints));
        entries = λ i i3. ap (λ c. pos 1 *ℤ entry c i +ℤ (pos 1 *ℤ entry (line_at lines (2 * k + 1)).c i +ℤ pos 0)) box.upper ∙ ap (λ c. pos 1 *ℤ entry (axis k (pos 1)) i +ℤ (pos 1 *ℤ entry c i +ℤ pos 0)) box.lower ∙ cancel k i l i3 ∙ none i;
        sides = below (upper_side lines k) (lower_side lines k) less;
      };
      few = record { few = omega (arith, some); small = both (λ item. unsigned_abs item.1 ≤ farkas_most n) (farkas_some n) (farkas_some n) };
    }
  where
    none : (i : ℕ) → pos 0 ≡ pos 0 *ℤ entry [] i
    none i = ap (λ z. pos 0 *ℤ z) (past i)
      where
        past : (i : ℕ) → pos 0 ≡ entry [] i
        past i = refl

    below : (u d : ℤ) → (u +ℤ d) <ℤ pos 0 → (pos 1 *ℤ u +ℤ (pos 1 *ℤ d +ℤ pos 0)) ≤ℤ negsuc 0
    below u d h =
        let m : (u +ℤ d) ≤ℤ negsuc 0 = omega (arith, ints, h) in
        subst (λ z. z ≤ℤ negsuc 0) (ring (u ∷ d ∷ []) (var 0 ⊕ var 1) (lit (pos 1) ⊗ var 0 ⊕ (lit (pos 1) ⊗ var 1 ⊕ lit (pos 0))) refl) m
