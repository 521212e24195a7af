-- Two variables: the corner of the box, and the optimum on the edge of a row, as one of the program without the edge's variable.
use Rattle.std.proofs.Common.{◌≡◌, ◌≢◌, ℕ, zero, suc, ◌+◌, ◌-◌, ◌*◌, ◌<◌, ◌≤◌, min, max, List, [], ◌∷◌, length, map, refl, sym, ap, subst, ◌∙◌, arith, lit<, lit≤, ◌⊎◌, inl, inr}
use Rattle.std.specs.Prelude.{ℤ, pos, negsuc, ◌+ℤ◌, ◌-ℤ◌, ◌*ℤ◌, ◌<ℤ◌, ◌≤ℤ◌, Bool, true, false, cond, nat_eq, slice_index_or}
use Rattle.std.specs.List.{range_with_len}
use Rattle.std.proofs.lemmas.Int.{ints}
use Rattle.std.proofs.lemmas.Bool.Decides.{nat_tests}
use Rattle.std.proofs.lemmas.List.{get_or-set_same, get_or-set_other}
use Rattle.std.proofs.lemmas.List.FromFn.{length-map-range_with_len, get_or-map-range_with_len}
use Rattle.exact_algebra.specs.Poly.{var, lit, ◌⊕◌, ◌⊖◌, ◌⊗◌}
use Rattle.exact_algebra.specs.Normal.{is_nought}
use Rattle.exact_algebra.proofs.Normal.{ring}
use Rattle.lp_cert.specs.Program.{Program, IsProgram, entry, axis}
use Rattle.lp_core.specs.declared.reduced.Line.{Line}
use Rattle.lp_core.specs.Reduced.{Reduced}
use Rattle.lp_core.specs.declared.reduced.Optimum.{Optimum}
use Rattle.lp_core.specs.declared.pivot.Pivot.{Pivot}
use Rattle.lp_core.specs.declared.corner.End.{End}
use Rattle.lp_core.specs.declared.edge.Edge.{Edge}
use Rattle.lp_core.specs.declared.edge.Ends.{Ends}
use Rattle.lp_core.specs.declared.edge.Tip.{Tip}
use Rattle.lp_core.specs.declared.edge.Spot.{Spot}
use Rattle.lp_core.specs.Corner.{IsEnd}
use Rattle.lp_core.specs.Elimination.{IsEliminated, IsLifted, factor_of, source_of, way, with_pivot}
use Rattle.lp_core.specs.Lines.{along, is_seen, all_seen, line_at}
use Rattle.lp_core.specs.Search.{IsReduced, IsBest, IsEmpty}
use Rattle.lp_core.specs.Smaller.{eliminated, smaller, source_line, rest_of}
use Rattle.lp_core.specs.Sizes.{level}
use Rattle.lp_core.specs.Bounds.{IsApart, IsPeak, IsReach, IsSeenRow, left_entry, left_objective, left_side}
use Rattle.lp_core.specs.Planar.{AreEnds, IsSpot, half_line, lines_of, optimum_of, peak_of, pivot_of, reach_of, spot_num, spot_items, tip_num, whole_of, farkas_of}
use Rattle.lp_core.proofs.Back.{best_back, empty_back}
use Rattle.lp_core.proofs.Boxes.{axis_same, axis_other, upper_seen, lower_seen, seen_cases, first_seen}
use Rattle.lp_core.proofs.Corners.{IsCornerTo, no_corner, corner_dead, corner_live, corner_best}
use Rattle.lp_core.proofs.Ends.{tip_on}
use Rattle.lp_core.proofs.Fits.{by_place}
use Rattle.lp_core.proofs.Halves.{whole_is, whole_line, whole_count}
use Rattle.lp_core.proofs.Lines.{two_items, no_part, along_single, reach_fewer, apart_empty, crossed_empty, inner_best}
use Rattle.lp_core.proofs.Smaller.{IsStep, seen_source}
use Rattle.lp_core.proofs.Steps.{eliminated_same}
use Rattle.lp_core.proofs.Wholes.{below_true, below_false, from_true, whole_level}

-- ---- a row of a box stays as it is
pub box_left : (p : Pivot) (x : Line) (k : ℕ) (s : ℤ) → x.c ≡ axis k s → k < 3 → p.place ≢ k → (left_entry p x k ≡ s) × (left_side p x ≡ x.h)
box_left p x k s e l n =
    let i = eliminated_same p x (ap (λ c. entry c p.place) e ∙ axis_other k p.place s n) in
    (sym (i.entries k l) ∙ ap (λ c. entry c k) e ∙ axis_same k s l, sym i.side)

-- ---- the program without the variable of a pivot
pub eliminated_is : (p : Pivot) (x : Line) → IsEliminated p x (eliminated p x)
unfolding eliminated
eliminated_is p x = by_entry (entry x.c p.place) refl
  where
    full : Line
    full = record { c = left_entry p x 0 ∷ left_entry p x 1 ∷ left_entry p x 2 ∷ []; h = left_side p x }

    other : (entry x.c p.place ≡ pos 0 → ⊥) → IsEliminated p x (record { c = left_entry p x 0 ∷ left_entry p x 1 ∷ left_entry p x 2 ∷ []; h = left_side p x })
    other n = record { entries = by_place _ _ _ (λ k. left_entry p x k) refl refl refl; side = refl; same = λ e. absurd (n e) }

    positive : (n : ℕ) → pos (suc n) ≡ pos 0 → ⊥
    positive n e = omega (arith, ints, e)

    negative : (n : ℕ) → negsuc n ≡ pos 0 → ⊥
    negative n e = omega (arith, ints, e)

    by_entry : (z : ℤ) → entry x.c p.place ≡ z → IsEliminated p x (cond (is_nought z) x (record { c = left_entry p x 0 ∷ left_entry p x 1 ∷ left_entry p x 2 ∷ []; h = left_side p x }))
    by_entry (pos zero) e = eliminated_same p x e
    by_entry (pos (suc n)) e =
        let f : false ≡ nat_eq (suc n) 0 = grind (arith, nat_tests) in
        subst (λ b. IsEliminated p x (cond b x (record { c = left_entry p x 0 ∷ left_entry p x 1 ∷ left_entry p x 2 ∷ []; h = left_side p x }))) f (other (λ g. positive n (sym e ∙ g)))
    by_entry (negsuc n) e = other (λ g. negative n (sym e ∙ g))

pub step_of : (P : Reduced) (o : List ℤ) (r : ℕ) (p : Pivot) → IsReduced P o → r < length P.lines → p.line ≡ line_at P.lines r → IsStep P o r p (smaller p P r) (rest_of p o)
unfolding smaller rest_of
step_of P o r p reduced within line = record {
  reduced = reduced;
  within = within;
  line = line;
  live = refl;
  count = length-map-range_with_len (source_line p P r) 0 (min (length P.lines) (max r 6));
  each = λ l h.
      let d : Line = record { c = []; h = pos 0 } in
      let count : length (map (source_line p P r) (range_with_len 0 (min (length P.lines) (max r 6)))) ≡ min (length P.lines) (max r 6) = length-map-range_with_len (source_line p P r) 0 (min (length P.lines) (max r 6)) in
      subst (λ y. IsEliminated p (line_at P.lines (source_of p P.live r l)) y) (sym (get_or-map-range_with_len (source_line p P r) 0 (min (length P.lines) (max r 6)) l l d (omega (arith, h, count)) (omega arith)))
      (eliminated_is p (line_at P.lines (source_of p P.live r l)));
  is_rest = by_place _ _ _ (λ k. left_objective p o k) refl refl refl;
}

-- ---- what was seen counts
seen_best : (seen new : ℕ → Bool) (P : Reduced) (o : List ℤ) (b : Optimum) → ((l : ℕ) → seen l ≡ true → new l ≡ true) → ((l : ℕ) → l < length P.lines → new l ≡ true → seen l ≡ true) → IsBest seen P o b → IsBest new P o b
seen_best seen new P o b more less h = record {
  met = record { positive = h.met.positive; each = λ l w e. h.met.each l w (less l w e) };
  dual = record {
    rows = h.dual.rows;
    seen_rows = λ k d l. more _ (h.dual.seen_rows k d l);
    not_negative = h.dual.not_negative;
    entries = h.dual.entries;
    sides = h.dual.sides;
  };
  num = h.num;
  den = h.den;
  few = h.few;
}

-- ---- a program of two variables
module _ (p : Program) (o : List ℤ) (h : IsProgram p) (two : p.dimension ≡ 2) where
  lives : (k : ℕ) → k < 2 → slice_index_or (whole_of p).live k false ≡ true
  lives k l = (whole_is p).live k (omega (arith, l)) ∙ below_true k p.dimension (omega (arith, two, l))

  third : slice_index_or (whole_of p).live 2 false ≡ false
  third = (whole_is p).live 2 (lit< tt) ∙ below_false 2 p.dimension (omega (arith, two))

  level_two : level (whole_of p).live ≡ 2
  level_two = whole_level p (whole_of p) h (whole_is p) ∙ two

  pub box_within : (k : ℕ) → k < 2 → 2 * k + 1 < length p.rows
  box_within k l = omega (arith, l, h.has_box, two)

  pub box_line : (k : ℕ) → k < 2 → ((line_at (lines_of p) (2 * k)).c ≡ axis k (pos 1)) × ((line_at (lines_of p) (2 * k + 1)).c ≡ axis k (negsuc 0))
  box_line k l =
      let b = h.box k (omega (arith, l, two)) in
      let w = box_within k l in
      (ap (λ (x : Line). x.c) (whole_line p (2 * k) (omega (arith, w))) ∙ b.0, ap (λ (x : Line). x.c) (whole_line p (2 * k + 1) w) ∙ b.1)

  -- the rows that were seen are the first
  seen_first : (r l : ℕ) → 4 ≤ r → is_seen (whole_of p).live r l ≡ true → l < r
  seen_first r l boxes e = by_case (seen_cases (whole_of p).live r l e)
    where
      place : (k : ℕ) → k < 3 → slice_index_or (whole_of p).live k false ≡ true → k < 2
      place k l3 live = let b = from_true k p.dimension (sym ((whole_is p).live k l3) ∙ live) in omega (arith, b, two)

      by_case : (l < r) ⊎ ((k : ℕ) × (k < 3) × (slice_index_or (whole_of p).live k false ≡ true) × ((l ≡ 2 * k) ⊎ (l ≡ 2 * k + 1))) → l < r
      by_case (inl less) = less
      by_case (inr (k, l3, live, inl f)) = let b = place k l3 live in omega (arith, b, f, boxes)
      by_case (inr (k, l3, live, inr f)) = let b = place k l3 live in omega (arith, b, f, boxes)

  box_seen : (l : ℕ) → l < 4 → is_seen (whole_of p).live 0 l ≡ true
  box_seen zero m = upper_seen (whole_of p).live 0 0 (lit< tt) (lives 0 (lit< tt))
  box_seen (suc zero) m = lower_seen (whole_of p).live 0 0 (lit< tt) (lives 0 (lit< tt))
  box_seen (suc (suc zero)) m = upper_seen (whole_of p).live 0 1 (lit< tt) (lives 1 (lit< tt))
  box_seen (suc (suc (suc zero))) m = lower_seen (whole_of p).live 0 1 (lit< tt) (lives 1 (lit< tt))
  box_seen (suc (suc (suc (suc l)))) m = absurd (omega (arith, m))

  seen_from : (l : ℕ) → is_seen (whole_of p).live 0 l ≡ true → is_seen (whole_of p).live 4 l ≡ true
  seen_from l e = by_case (seen_cases (whole_of p).live 0 l e)
    where
      by_case : (l < 0) ⊎ ((k : ℕ) × (k < 3) × (slice_index_or (whole_of p).live k false ≡ true) × ((l ≡ 2 * k) ⊎ (l ≡ 2 * k + 1))) → is_seen (whole_of p).live 4 l ≡ true
      by_case (inl less) = absurd (omega (arith, less))
      by_case (inr (k, l3, live, inl f)) = subst (λ n. is_seen (whole_of p).live 4 n ≡ true) (sym f) (upper_seen (whole_of p).live 4 k l3 live)
      by_case (inr (k, l3, live, inr f)) = subst (λ n. is_seen (whole_of p).live 4 n ≡ true) (sym f) (lower_seen (whole_of p).live 4 k l3 live)

  pub all_best : (r : ℕ) (b : Optimum) → length p.rows ≤ r → 4 ≤ r → IsBest (is_seen (whole_of p).live r) (whole_of p) o b → IsBest all_seen (whole_of p) o b
  all_best r b end boxes best = seen_best (is_seen (whole_of p).live r) all_seen (whole_of p) o b (λ l e. refl) (λ l w e. first_seen (whole_of p).live r l (omega (arith, w, end, whole_count p))) best

  module _ (reduced : IsReduced (whole_of p) o) where
    pub corner_two : (a b : End) → IsEnd (lines_of p) 0 (entry o 0) a → IsEnd (lines_of p) 1 (entry o 1) b
        → IsBest (is_seen (whole_of p).live 4) (whole_of p) o (record { num = a.at ∷ b.at ∷ pos 0 ∷ []; den = pos 1; items = (a.row, a.times) ∷ (b.row, b.times) ∷ [] })
    corner_two a b x y =
        let P = whole_of p in
        let none = no_corner P o in
        let first : IsCornerTo 1 P o (a.at ∷ pos 0 ∷ pos 0 ∷ []) ((a.row, a.times) ∷ []) = corner_live 0 P o (pos 0 ∷ pos 0 ∷ pos 0 ∷ []) [] a (lit< tt) reduced (lives 0 (lit< tt)) x none in
        let second : IsCornerTo 2 P o (a.at ∷ b.at ∷ pos 0 ∷ []) ((a.row, a.times) ∷ (b.row, b.times) ∷ []) = corner_live 1 P o (a.at ∷ pos 0 ∷ pos 0 ∷ []) ((a.row, a.times) ∷ []) b (lit< tt) reduced (lives 1 (lit< tt)) y first in
        let all : IsCornerTo 3 P o (a.at ∷ b.at ∷ pos 0 ∷ []) ((a.row, a.times) ∷ (b.row, b.times) ∷ []) = corner_dead 2 P o (a.at ∷ b.at ∷ pos 0 ∷ []) ((a.row, a.times) ∷ (b.row, b.times) ∷ []) (lit< tt) reduced third second in
        seen_best (is_seen P.live 0) (is_seen P.live 4) P o _ seen_from (λ l w e. box_seen l (seen_first 4 l (lit≤ tt) e)) (corner_best P o (a.at ∷ b.at ∷ pos 0 ∷ []) ((a.row, a.times) ∷ (b.row, b.times) ∷ []) reduced all)

    -- ---- the edge of a row
    module _ (e : Edge) (r : ℕ) (within : r < length p.rows) (boxes : 4 ≤ r) (line : half_line e.row ≡ line_at (lines_of p) r) where
      step : IsStep (whole_of p) o r (pivot_of e) (smaller (pivot_of e) (whole_of p) r) (rest_of (pivot_of e) o)
      step = step_of (whole_of p) o r (pivot_of e) reduced (omega (arith, within, whole_count p)) line

      k_inside : 1 - e.place < 3
      k_inside = omega arith

      apart : 1 - e.place ≢ e.place
      apart = λ f. let m = e.planar in absurd (omega (arith, m, f))

      live : slice_index_or (whole_of p).live (1 - e.place) false ≡ true
      live = lives (1 - e.place) (let m = e.planar in omega (arith, m))

      lone : (i : ℕ) → i < 3 → i ≢ 1 - e.place → i ≢ e.place → slice_index_or (whole_of p).live i false ≡ false
      lone i l n m = let last : i ≡ 2 = let u = e.planar in omega (arith, l, n, m, u) in ap (λ j. slice_index_or (whole_of p).live j false) last ∙ third

      -- the first rows are those that were seen
      first_row : (l : ℕ) → l < r → IsSeenRow (whole_of p) r l
      first_row l f = (omega (arith, f, within, whole_count p), first_seen (whole_of p).live r l f)

      row_first : (l : ℕ) → IsSeenRow (whole_of p) r l → l < r
      row_first l h = seen_first r l boxes h.1

      seen_at : (l : ℕ) → l < r → source_of (pivot_of e) (whole_of p).live r l ≡ l
      seen_at l first = seen_source (whole_of p) o r (pivot_of e) (smaller (pivot_of e) (whole_of p) r) (rest_of (pivot_of e) o) step l (first_seen (whole_of p).live r l first)

      -- ---- two rows that leave no point
      module _ (i j : ℕ) (m n : ℤ) (i_first : i < r) (j_first : j < r) (none : IsEmpty (smaller (pivot_of e) (whole_of p) r) (two_items i m j n)) where
        triple : ℕ → ℤ → ℕ → ℤ → ℤ → List (ℕ × ℤ)
        triple a u c w z = (a, u) ∷ (c, w) ∷ (r, z) ∷ []

        two_lifted : farkas_of (pivot_of e) (lines_of p) r (i, m) (j, n) ≡ with_pivot (pivot_of e) (lines_of p) (whole_of p).live r (pos 0) (two_items i m j n)
        unfolding triple
        two_lifted =
            let v = pivot_of e in
            let a = source_of v (whole_of p).live r i in
            let c = source_of v (whole_of p).live r j in
            let times = λ (l : ℕ) (z : ℤ). factor_of v (line_at (lines_of p) l) *ℤ z in
            let own = λ (l : ℕ). entry (line_at (lines_of p) l).c e.place in
            let step_i : triple i (times i m) j (times j n) (pos 0 -ℤ e.sign *ℤ (m *ℤ own i +ℤ n *ℤ own j)) ≡ triple a (times a m) j (times j n) (pos 0 -ℤ e.sign *ℤ (m *ℤ own a +ℤ n *ℤ own j)) =
            ap (λ x. triple x (times x m) j (times j n) (pos 0 -ℤ e.sign *ℤ (m *ℤ own x +ℤ n *ℤ own j))) (sym (seen_at i i_first)) in
            let step_j : triple a (times a m) j (times j n) (pos 0 -ℤ e.sign *ℤ (m *ℤ own a +ℤ n *ℤ own j)) ≡ triple a (times a m) c (times c n) (pos 0 -ℤ e.sign *ℤ (m *ℤ own a +ℤ n *ℤ own c)) =
            ap (λ x. triple a (times a m) x (times x n) (pos 0 -ℤ e.sign *ℤ (m *ℤ own a +ℤ n *ℤ own x))) (sym (seen_at j j_first)) in
            let last : triple a (times a m) c (times c n) (pos 0 -ℤ e.sign *ℤ (m *ℤ own a +ℤ n *ℤ own c)) ≡ triple a (times a m) c (times c n) (e.sign *ℤ (pos 0 -ℤ (m *ℤ own a +ℤ (n *ℤ own c +ℤ pos 0)))) =
            ap (λ z. triple a (times a m) c (times c n) z) (ring (e.sign ∷ (m *ℤ own a) ∷ (n *ℤ own c) ∷ []) (lit (pos 0) ⊖ var 0 ⊗ (var 1 ⊕ var 2)) (var 0 ⊗ (lit (pos 0) ⊖ (var 1 ⊕ (var 2 ⊕ lit (pos 0))))) refl) in
            step_i ∙ step_j ∙ last

        pub edge_empty : (old : Optimum) → IsBest (is_seen (whole_of p).live r) (whole_of p) o old → ((half_line e.row).h *ℤ old.den) <ℤ along (half_line e.row).c old.num → IsEmpty (whole_of p) (farkas_of (pivot_of e) (lines_of p) r (i, m) (j, n))
        edge_empty old best broken =
            empty_back (whole_of p) o r (pivot_of e) (smaller (pivot_of e) (whole_of p) r) (rest_of (pivot_of e) o) step old (two_items i m j n) (farkas_of (pivot_of e) (lines_of p) r (i, m) (j, n)) best broken none two_lifted

      pub edge_apart : (l : ℕ) → IsApart (lines_of p) (pivot_of e) (1 - e.place) (λ i. i < r) l → IsEmpty (smaller (pivot_of e) (whole_of p) r) (two_items l (pos 1) l (pos 0))
      edge_apart l h = apart_empty (whole_of p) o r (pivot_of e) (smaller (pivot_of e) (whole_of p) r) (rest_of (pivot_of e) o) step (1 - e.place) k_inside apart live lone l (first_row l h.row) h.none h.side

      pub edge_crossed : (ends : Ends) → AreEnds (lines_of p) (pivot_of e) (1 - e.place) (λ i. i < r) (λ i. i < r) ends → (ends.lower.entry *ℤ ends.upper.side +ℤ ends.upper.entry *ℤ ends.lower.side) <ℤ pos 0
          → IsEmpty (smaller (pivot_of e) (whole_of p) r) (two_items ends.upper.row ends.lower.entry ends.lower.row ends.upper.entry)
      edge_crossed ends bounds crossed =
          crossed_empty (whole_of p) o r (pivot_of e) (smaller (pivot_of e) (whole_of p) r) (rest_of (pivot_of e) o) step (1 - e.place) k_inside apart live lone (λ i. i < r) (reach_of ends)
          (reach_fewer (lines_of p) (pivot_of e) (1 - e.place) (λ i. i < r) (λ i. i < r) (λ i. i < r) (IsSeenRow (whole_of p) r) (reach_of ends) (λ l h. h) first_row bounds) ends.upper.small_entry ends.lower.small_entry crossed

      module _ (ends : Ends) (t : Tip) (bounds : AreEnds (lines_of p) (pivot_of e) (1 - e.place) (λ i. i < r) (λ i. i < r) ends) (open_ : pos 0 ≤ℤ (ends.lower.entry *ℤ ends.upper.side +ℤ ends.upper.entry *ℤ ends.lower.side))
          (tip : IsPeak (reach_of ends) (left_objective (pivot_of e) o (1 - e.place)) (peak_of t)) where
        seen_bounds : IsReach (lines_of p) (pivot_of e) (1 - e.place) (IsSeenRow (whole_of p) r) (IsSeenRow (whole_of p) r) (reach_of ends)
        seen_bounds = reach_fewer (lines_of p) (pivot_of e) (1 - e.place) (λ i. i < r) (IsSeenRow (whole_of p) r) (λ i. i < r) (IsSeenRow (whole_of p) r) (reach_of ends) row_first first_row bounds

        edge_best_inner : IsBest all_seen (smaller (pivot_of e) (whole_of p) r) (rest_of (pivot_of e) o) (record { num = tip_num e t; den = t.den; items = (t.row, t.times) ∷ [] })
        edge_best_inner =
            let a = t.small_at in
            let d = t.small_den in
            let m = t.small_times in
            inner_best (whole_of p) o r (pivot_of e) (smaller (pivot_of e) (whole_of p) r) (rest_of (pivot_of e) o) step (1 - e.place) k_inside apart live lone (reach_of ends) (peak_of t) seen_bounds open_ tip (omega (arith, a)) d (omega (arith, m))

        tip_seen : source_of (pivot_of e) (whole_of p).live r t.row ≡ t.row
        tip_seen = seen_at t.row (tip_on (lines_of p) (pivot_of e) (1 - e.place) (λ i. i < r) (λ i. i < r) (reach_of ends) (left_objective (pivot_of e) o (1 - e.place)) (peak_of t) bounds tip).row

        -- ---- back to both variables
        module _ (x : Line) (s : Spot) (base : x ≡ line_at (lines_of p) t.row) (spot : IsSpot e o r t x s) where
          own_part : entry (tip_num e t) e.place ≡ pos 0
          own_part = get_or-set_other (pos 0 ∷ pos 0 ∷ pos 0 ∷ []) (1 - e.place) e.place t.at (pos 0) (let a = e.planar in λ f. absurd (omega (arith, a, f))) ∙ no_part e.place

          other_part : entry (tip_num e t) (1 - e.place) ≡ t.at
          other_part = get_or-set_same (pos 0 ∷ pos 0 ∷ pos 0 ∷ []) (1 - e.place) t.at (pos 0) (omega arith)

          lifted : IsLifted (pivot_of e) (tip_num e t) t.den (spot_num s)
          lifted = record {
            moved =
                spot.own
                ∙ ap (λ z. e.sign *ℤ (e.row.side *ℤ t.den -ℤ z)) (sym (along_single (half_line e.row).c (1 - e.place) t.at k_inside))
                ∙ ring (e.size ∷ way (pivot_of e) (tip_num e t) t.den ∷ []) (var 1) (var 0 ⊗ lit (pos 0) ⊕ var 1) refl
                ∙ ap (λ z. e.size *ℤ z +ℤ way (pivot_of e) (tip_num e t) t.den) (sym own_part);
            others = λ i l n. others i l n (nat_eq i (1 - e.place)) refl;
          }
            where
              others : (i : ℕ) → i < 3 → i ≢ e.place → (b : Bool) → nat_eq i (1 - e.place) ≡ b → entry (spot_num s) i ≡ e.size *ℤ entry (tip_num e t) i
              others i l n true g =
                  let m : i ≡ 1 - e.place = grind (arith, nat_tests) in
                  ap (λ j. entry (spot_num s) j) m ∙ spot.other ∙ ap (λ z. e.size *ℤ z) (sym other_part) ∙ ap (λ j. e.size *ℤ entry (tip_num e t) j) (sym m)
              others i l n false g =
                  let m : i ≢ 1 - e.place = grind (arith, nat_tests) in
                  let last : i ≡ 2 = let u = e.planar in omega (arith, l, n, m, u) in
                  let none : entry (tip_num e t) i ≡ pos 0 = get_or-set_other (pos 0 ∷ pos 0 ∷ pos 0 ∷ []) (1 - e.place) i t.at (pos 0) m ∙ no_part i in
                  ap (λ j. entry (spot_num s) j) last ∙ ring (e.size ∷ []) (lit (pos 0)) (var 0 ⊗ lit (pos 0)) refl ∙ ap (λ z. e.size *ℤ z) (sym none)

          pairs : (a b c d : ℕ) (u v w x : ℤ) → a ≡ b → u ≡ v → c ≡ d → w ≡ x → two_items a u c w ≡ two_items b v d x
          pairs a b c d u v w x f g i j = ap (λ z. two_items z u c w) f ∙ ap (λ z. two_items b z c w) g ∙ ap (λ z. two_items b v z w) i ∙ ap (λ z. two_items b v d z) j

          items : spot_items s ≡ with_pivot (pivot_of e) (lines_of p) (whole_of p).live r (t.den *ℤ entry o e.place) ((t.row, t.times) ∷ [])
          items =
              let v = pivot_of e in
              let n = source_of v (whole_of p).live r t.row in
              let same : x ≡ line_at (lines_of p) n = base ∙ ap (λ i. line_at (lines_of p) i) (sym tip_seen) in
              pairs s.row n s.base r s.times (factor_of v (line_at (lines_of p) n) *ℤ t.times) s.base_times (e.sign *ℤ (t.den *ℤ entry o e.place -ℤ (t.times *ℤ entry (line_at (lines_of p) n).c e.place +ℤ pos 0)))
              (spot.row ∙ sym tip_seen) (spot.times ∙ ap (λ z. factor_of v z *ℤ t.times) same) spot.base
              (spot.base_times ∙ ap (λ (z : Line). e.sign *ℤ (t.den *ℤ entry o e.place -ℤ t.times *ℤ entry z.c e.place)) same
              ∙ ring (e.sign ∷ (t.den *ℤ entry o e.place) ∷ (t.times *ℤ entry (line_at (lines_of p) n).c e.place) ∷ []) (var 0 ⊗ (var 1 ⊖ var 2)) (var 0 ⊗ (var 1 ⊖ (var 2 ⊕ lit (pos 0)))) refl)

          pub edge_best : (old : Optimum) → IsBest (is_seen (whole_of p).live r) (whole_of p) o old → ((half_line e.row).h *ℤ old.den) <ℤ along (half_line e.row).c old.num → IsBest (is_seen (whole_of p).live (r + 1)) (whole_of p) o (optimum_of s)
          edge_best old best broken =
              best_back (whole_of p) o r (pivot_of e) (smaller (pivot_of e) (whole_of p) r) (rest_of (pivot_of e) o) step old
              (record { num = tip_num e t; den = t.den; items = (t.row, t.times) ∷ [] }) (optimum_of s) best broken edge_best_inner lifted spot.den items
