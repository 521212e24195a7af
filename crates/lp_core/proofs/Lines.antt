-- What is left of a program of two variables on the line of a row: a program of one variable, and what its two bounds prove.
use Rattle.std.proofs.Common.{◌≡◌, ◌≢◌, ℕ, zero, suc, ◌+◌, ◌*◌, ◌/◌, ◌^◌, ◌<◌, ◌≤◌, List, [], ◌∷◌, length, set, refl, sym, ap, subst, ◌∙◌, arith, lit≤, ◌⊎◌, inl, inr}
use Rattle.std.specs.Prelude.{ℤ, pos, negsuc, ◌+ℤ◌, ◌*ℤ◌, ◌<ℤ◌, ◌≤ℤ◌, All, Bool, true, false, nat_eq, nat_lt, slice_index_or, slice_set}
use Rattle.std.specs.Int.RustNames.{unsigned_abs}
use Rattle.std.proofs.lemmas.Int.{ints}
use Rattle.std.proofs.lemmas.Bool.Decides.{nat_tests}
use Rattle.std.proofs.lemmas.List.{get_or-set_same, get_or-set_other}
use Rattle.std.proofs.lemmas.List.Elements.{All-cons, All-nil}
use Rattle.exact_algebra.specs.Poly.{var, lit, ◌⊕◌, ◌⊗◌}
use Rattle.exact_algebra.proofs.Normal.{ring}
use Rattle.exact_algebra.proofs.Order.{at_most_from_same}
use Rattle.lp_cert.specs.Program.{entry}
use Rattle.lp_core.specs.Reduced.{Reduced}
use Rattle.lp_core.specs.declared.pivot.Pivot.{Pivot}
use Rattle.lp_core.specs.Bounds.{Reach, Peak, IsReach, IsPeak, IsBoxRow, IsSeenRow, left_entry, left_objective, left_side}
use Rattle.lp_core.specs.Elimination.{source_of}
use Rattle.lp_core.specs.Lines.{along, all_seen, line_at}
use Rattle.lp_core.specs.Search.{IsBest, IsEmpty}
use Rattle.lp_core.specs.Sizes.{level, entry_most, side_most, objective_most, num_most, den_most, dual_most, farkas_most, AreAtMost, AreFew, IsSmallLine}
use Rattle.lp_core.proofs.Along.{along_is}
use Rattle.lp_core.proofs.Ends.{IsOn, tip_meets, tip_on}
use Rattle.lp_core.proofs.Fits.{at_place}
use Rattle.lp_core.proofs.Levels.{level_less, level_none}
use Rattle.lp_core.proofs.Smaller.{IsStep, levels, seen_source, seen_within, source_seen, source_within, smaller_is_reduced}

same_place : (i k : ℕ) → nat_eq i k ≡ true → i ≡ k
same_place i k e = grind (arith, nat_tests)

other_place : (i k : ℕ) → nat_eq i k ≡ false → i ≢ k
other_place i k e = grind (arith, nat_tests)

-- one of the rows that are done, or the next
pub or_last : (n i : ℕ) → i < n + 1 → (i < n) ⊎ (i ≡ n)
or_last n i h = by_case (nat_lt i n) refl
  where
    by_case : (b : Bool) → nat_lt i n ≡ b → (i < n) ⊎ (i ≡ n)
    by_case true e = inl (grind (arith, nat_tests))
    by_case false e = inr (let f : n ≤ i = grind (arith, nat_tests) in omega (arith, f, h))

-- a row of the box of a variable, by its number
pub half_box : (l k : ℕ) → l / 2 ≡ k → IsBoxRow k l
half_box l k e = by_case (nat_eq l (2 * k)) refl
  where
    by_case : (b : Bool) → nat_eq l (2 * k) ≡ b → IsBoxRow k l
    by_case true f = inl (same_place l (2 * k) f)
    by_case false f = inr (let n = other_place l (2 * k) f in omega (arith, e, n))

-- ---- points with one part
pub no_part : (i : ℕ) → entry (pos 0 ∷ pos 0 ∷ pos 0 ∷ []) i ≡ pos 0
no_part zero = refl
no_part (suc zero) = refl
no_part (suc (suc zero)) = refl
no_part (suc (suc (suc i))) = refl

pub along_single : (c : List ℤ) (k : ℕ) (t : ℤ) → k < 3 → along c (set (pos 0 ∷ pos 0 ∷ pos 0 ∷ []) k t) ≡ entry c k *ℤ t
along_single c zero t l = along_is c (t ∷ pos 0 ∷ pos 0 ∷ []) ∙ ring (entry c 0 ∷ entry c 1 ∷ entry c 2 ∷ t ∷ []) (var 0 ⊗ var 3 ⊕ (var 1 ⊗ lit (pos 0) ⊕ var 2 ⊗ lit (pos 0))) (var 0 ⊗ var 3) refl
along_single c (suc zero) t l = along_is c (pos 0 ∷ t ∷ pos 0 ∷ []) ∙ ring (entry c 0 ∷ entry c 1 ∷ entry c 2 ∷ t ∷ []) (var 0 ⊗ lit (pos 0) ⊕ (var 1 ⊗ var 3 ⊕ var 2 ⊗ lit (pos 0))) (var 1 ⊗ var 3) refl
along_single c (suc (suc zero)) t l = along_is c (pos 0 ∷ pos 0 ∷ t ∷ []) ∙ ring (entry c 0 ∷ entry c 1 ∷ entry c 2 ∷ t ∷ []) (var 0 ⊗ lit (pos 0) ⊕ (var 1 ⊗ lit (pos 0) ⊕ var 2 ⊗ var 3)) (var 2 ⊗ var 3) refl
along_single c (suc (suc (suc k))) t l = absurd (omega (arith, l))

pub single_small : (k m : ℕ) (t : ℤ) → k < 3 → unsigned_abs t ≤ m → AreAtMost m (set (pos 0 ∷ pos 0 ∷ pos 0 ∷ []) k t)
single_small zero m t l h = record { first = h; second = omega arith; third = omega arith }
single_small (suc zero) m t l h = record { first = omega arith; second = h; third = omega arith }
single_small (suc (suc zero)) m t l h = record { first = omega arith; second = omega arith; third = h }
single_small (suc (suc (suc k))) m t l h = absurd (omega (arith, l))

abbrev pub two_items : ℕ → ℤ → ℕ → ℤ → List (ℕ × ℤ)
two_items a u c w = (a, u) ∷ (c, w) ∷ []

-- the bounds of more rows are those of fewer
pub reach_fewer : (lines : _) (p : Pivot) (k : ℕ) (done next rows more : ℕ → Type 0) (e : Reach) → ((l : ℕ) → next l → done l) → ((l : ℕ) → rows l → more l) → IsReach lines p k done rows e → IsReach lines p k next more e
reach_fewer lines p k done next rows more e f g h = record {
  upper = record { row = g e.upper.row h.upper.row; positive = h.upper.positive; entry = h.upper.entry; side = h.upper.side; below = λ l n. h.upper.below l (f l n) };
  lower = record { row = g e.lower.row h.lower.row; positive = h.lower.positive; entry = h.lower.entry; side = h.lower.side; below = λ l n. h.lower.below l (f l n) };
  flat = λ l n. h.flat l (f l n);
}

module _ (P : Reduced) (o : List ℤ) (r : ℕ) (p : Pivot) (Q : Reduced) (rest : List ℤ) (s : IsStep P o r p Q rest)
    (k : ℕ) (k3 : k < 3) (apart : k ≢ p.place) (live : slice_index_or P.live k false ≡ true) (lone : (i : ℕ) → i < 3 → i ≢ k → i ≢ p.place → slice_index_or P.live i false ≡ false) where
  q_live : (i : ℕ) → slice_index_or Q.live i false ≡ slice_index_or (set P.live p.place false) i false
  q_live i = ap (λ (xs : List Bool). slice_index_or xs i false) s.live

  other_dead : (i : ℕ) → i < 3 → i ≢ k → slice_index_or Q.live i false ≡ false
  other_dead i l n = q_live i ∙ by_case (nat_eq i p.place) refl
    where
      by_case : (b : Bool) → nat_eq i p.place ≡ b → slice_index_or (set P.live p.place false) i false ≡ false
      by_case true g =
          let m : i ≡ p.place = same_place i p.place g in
          ap (λ j. slice_index_or (set P.live p.place false) j false) m ∙ get_or-set_same P.live p.place false false (let t = s.reduced.three in let u = p.inside in omega (arith, t, u))
      by_case false g =
          let m : i ≢ p.place = other_place i p.place g in
          get_or-set_other P.live p.place i false false m ∙ lone i l n m

  k_live : slice_index_or Q.live k false ≡ true
  k_live = q_live k ∙ get_or-set_other P.live p.place k false false apart ∙ live

  pub level_one : level Q.live ≡ 1
  level_one =
      let three : length Q.live ≡ 3 = (smaller_is_reduced P o r p Q rest s).three in
      level_less Q.live k three k3 k_live ∙ ap suc (level_none (slice_set Q.live k false) gone)
    where
      gone : (i : ℕ) → i < 3 → slice_index_or (set Q.live k false) i false ≡ false
      gone i l = by_case (nat_eq i k) refl
        where
          by_case : (b : Bool) → nat_eq i k ≡ b → slice_index_or (set Q.live k false) i false ≡ false
          by_case true g =
              let m : i ≡ k = same_place i k g in
              let three : length Q.live ≡ 3 = (smaller_is_reduced P o r p Q rest s).three in
              ap (λ j. slice_index_or (set Q.live k false) j false) m ∙ get_or-set_same Q.live k false false (omega (arith, three, k3))
          by_case false g =
              let m : i ≢ k = other_place i k g in
              get_or-set_other Q.live k i false false m ∙ other_dead i l m

  pub level_two : level P.live ≡ 2
  level_two = levels P o r p Q rest s ∙ ap suc level_one

  pub lines_small : (l : ℕ) → l < length P.lines → IsSmallLine 3 (2 ^ 65) (line_at P.lines l)
  lines_small l h = subst (λ n. IsSmallLine (entry_most n) (side_most n) (line_at P.lines l)) level_two (s.reduced.lines l h)

  pub rest_small : unsigned_abs (entry rest k) ≤ 49152
  rest_small = at_place 49152 k rest k3 (subst (λ n. AreAtMost (objective_most n) rest) level_one (smaller_is_reduced P o r p Q rest s).objective)

  -- ---- the rows of the program that is left
  inside_at : (l : ℕ) → IsSeenRow P r l → l < length Q.lines
  inside_at l h = seen_within P o r p Q rest s l h.0 h.1

  entry_at : (l : ℕ) → IsSeenRow P r l → entry (line_at Q.lines l).c k ≡ left_entry p (line_at P.lines l) k
  entry_at l h = (s.each l (inside_at l h)).entries k k3 ∙ ap (λ a. left_entry p (line_at P.lines a) k) (seen_source P o r p Q rest s l h.1)

  side_at : (l : ℕ) → IsSeenRow P r l → (line_at Q.lines l).h ≡ left_side p (line_at P.lines l)
  side_at l h = (s.each l (inside_at l h)).side ∙ ap (λ a. left_side p (line_at P.lines a)) (seen_source P o r p Q rest s l h.1)

  source_row : (l : ℕ) → l < length Q.lines → IsSeenRow P r (source_of p P.live r l)
  source_row l h = (source_within P o r p Q rest s l h, source_seen P o r p Q rest s l)

  -- ---- two rows that leave no point
  module _ (i j : ℕ) (m n : ℤ) (i_row : IsSeenRow P r i) (j_row : IsSeenRow P r j) (m_some : pos 0 ≤ℤ m) (n_some : pos 0 ≤ℤ n) (m_small : unsigned_abs m ≤ 18) (n_small : unsigned_abs n ≤ 18)
      (entries : m *ℤ left_entry p (line_at P.lines i) k +ℤ n *ℤ left_entry p (line_at P.lines j) k ≡ pos 0)
      (sides : (m *ℤ left_side p (line_at P.lines i) +ℤ n *ℤ left_side p (line_at P.lines j)) <ℤ pos 0) where
    two_entry : (a : ℕ) → a < 3 → m *ℤ entry (line_at Q.lines i).c a +ℤ (n *ℤ entry (line_at Q.lines j).c a +ℤ pos 0) ≡ pos 0
    two_entry a l = by_case (nat_eq a k) refl
      where
        by_case : (b : Bool) → nat_eq a k ≡ b → m *ℤ entry (line_at Q.lines i).c a +ℤ (n *ℤ entry (line_at Q.lines j).c a +ℤ pos 0) ≡ pos 0
        by_case true g =
            let same : a ≡ k = same_place a k g in
            ap (λ c. m *ℤ entry (line_at Q.lines i).c c +ℤ (n *ℤ entry (line_at Q.lines j).c c +ℤ pos 0)) same
            ∙ ap (λ z. m *ℤ z +ℤ (n *ℤ entry (line_at Q.lines j).c k +ℤ pos 0)) (entry_at i i_row)
            ∙ ap (λ z. m *ℤ left_entry p (line_at P.lines i) k +ℤ (n *ℤ z +ℤ pos 0)) (entry_at j j_row)
            ∙ ring ((m *ℤ left_entry p (line_at P.lines i) k) ∷ (n *ℤ left_entry p (line_at P.lines j) k) ∷ []) (var 0 ⊕ (var 1 ⊕ lit (pos 0))) (var 0 ⊕ var 1) refl
            ∙ entries
        by_case false g =
            let other : a ≢ k = other_place a k g in
            let d = (smaller_is_reduced P o r p Q rest s).dead a l (other_dead a l other) in
            ap (λ z. m *ℤ z +ℤ (n *ℤ entry (line_at Q.lines j).c a +ℤ pos 0)) (d.1 i (inside_at i i_row))
            ∙ ap (λ z. m *ℤ pos 0 +ℤ (n *ℤ z +ℤ pos 0)) (d.1 j (inside_at j j_row))
            ∙ ring (m ∷ n ∷ []) (var 0 ⊗ lit (pos 0) ⊕ (var 1 ⊗ lit (pos 0) ⊕ lit (pos 0))) (lit (pos 0)) refl

    pub two_empty : IsEmpty Q (two_items i m j n)
    two_empty =
        let both : (F : ℕ × ℤ → Type 0) → F (i, m) → F (j, n) → All F ((i, m) ∷ (j, n) ∷ []) = λ F a d. All-cons F (i, m) ((j, n) ∷ []) a (All-cons F (j, n) [] d (All-nil F)) in
        record {
          none = record {
            rows = both (λ item. item.0 < length Q.lines) (inside_at i i_row) (inside_at j j_row);
            seen_rows = both (λ item. all_seen item.0 ≡ true) refl refl;
            not_negative = both (λ item. pos 0 ≤ℤ item.1) m_some n_some;
            entries = two_entry;
            sides = below _ _ sides (
                ap (λ z. m *ℤ z +ℤ (n *ℤ (line_at Q.lines j).h +ℤ pos 0)) (side_at i i_row)
                ∙ ap (λ z. m *ℤ left_side p (line_at P.lines i) +ℤ (n *ℤ z +ℤ pos 0)) (side_at j j_row)
                ∙ ring ((m *ℤ left_side p (line_at P.lines i)) ∷ (n *ℤ left_side p (line_at P.lines j)) ∷ []) (var 0 ⊕ (var 1 ⊕ lit (pos 0))) (var 0 ⊕ var 1) refl
                );
          };
          few = subst (λ a. AreFew (a + 1) (farkas_most a) ((i, m) ∷ (j, n) ∷ [])) (sym level_one) (record { few = lit≤ tt; small = both (λ item. unsigned_abs item.1 ≤ farkas_most 1) m_small n_small });
        }
      where
        below : (a b : ℤ) → a <ℤ pos 0 → b ≡ a → b ≤ℤ negsuc 0
        below a b h f = omega (arith, ints)

  -- a row that no point of the line meets, and two bounds that cross
  pub apart_empty : (l : ℕ) → IsSeenRow P r l → left_entry p (line_at P.lines l) k ≡ pos 0 → left_side p (line_at P.lines l) <ℤ pos 0 → IsEmpty Q (two_items l (pos 1) l (pos 0))
  apart_empty l row none side =
      two_empty l l (pos 1) (pos 0) row row (omega (arith, ints)) (omega (arith, ints)) (lit≤ tt) (lit≤ tt)
      (ap (λ z. pos 1 *ℤ z +ℤ pos 0 *ℤ z) none)
      (subst (λ z. z <ℤ pos 0) (ring (left_side p (line_at P.lines l) ∷ []) (var 0) (lit (pos 1) ⊗ var 0 ⊕ lit (pos 0) ⊗ var 0) refl) side)

  pub crossed_empty : (done : ℕ → Type 0) (e : Reach) → IsReach P.lines p k done (IsSeenRow P r) e → unsigned_abs e.upper.entry ≤ 18 → unsigned_abs e.lower.entry ≤ 18 → (e.lower.entry *ℤ e.upper.side +ℤ e.upper.entry *ℤ e.lower.side) <ℤ pos 0
      → IsEmpty Q (two_items e.upper.row e.lower.entry e.lower.row e.upper.entry)
  crossed_empty done e h us ls crossed =
      let u = e.upper in
      let w = e.lower in
      two_empty u.row w.row w.entry u.entry h.upper.row h.lower.row (least w.entry h.lower.positive) (least u.entry h.upper.positive) ls us
      (entries u.entry w.entry (left_entry p (line_at P.lines u.row) k) (left_entry p (line_at P.lines w.row) k) h.upper.entry h.lower.entry)
      (subst (λ z. (w.entry *ℤ z +ℤ u.entry *ℤ left_side p (line_at P.lines w.row)) <ℤ pos 0) h.upper.side (subst (λ z. (w.entry *ℤ u.side +ℤ u.entry *ℤ z) <ℤ pos 0) h.lower.side crossed))
    where
      least : (a : ℤ) → pos 0 <ℤ a → pos 0 ≤ℤ a
      least a h = omega (arith, ints)

      entries : (u w a b : ℤ) → u ≡ pos 1 *ℤ a → w ≡ negsuc 0 *ℤ b → w *ℤ a +ℤ u *ℤ b ≡ pos 0
      entries u w a b f g = ap (λ z. z *ℤ a +ℤ u *ℤ b) g ∙ ap (λ z. (negsuc 0 *ℤ b) *ℤ a +ℤ z *ℤ b) f ∙ ring (a ∷ b ∷ []) ((lit (negsuc 0) ⊗ var 1) ⊗ var 0 ⊕ (lit (pos 1) ⊗ var 0) ⊗ var 1) (lit (pos 0)) refl

  -- ---- the better end is the optimum
  module _ (e : Reach) (t : Peak) (bounds : IsReach P.lines p k (IsSeenRow P r) (IsSeenRow P r) e) (open_ : pos 0 ≤ℤ (e.lower.entry *ℤ e.upper.side +ℤ e.upper.entry *ℤ e.lower.side))
      (tip : IsPeak e (left_objective p o k) t) (at_small : unsigned_abs t.at ≤ num_most 1) (den_small : unsigned_abs t.den ≤ den_most 1) (times_small : unsigned_abs t.times ≤ dual_most 1) where
    pub on : IsOn P.lines p k (left_objective p o k) (IsSeenRow P r) t
    on = tip_on P.lines p k (IsSeenRow P r) (IsSeenRow P r) e (left_objective p o k) t bounds tip

    abbrev pub tip_point : List ℤ
    tip_point = set (pos 0 ∷ pos 0 ∷ pos 0 ∷ []) k t.at

    inner_row : (l : ℕ) → l < length Q.lines → along (line_at Q.lines l).c tip_point ≤ℤ ((line_at Q.lines l).h *ℤ t.den)
    inner_row l w =
        let x = line_at P.lines (source_of p P.live r l) in
        let y = line_at Q.lines l in
        let i = s.each l w in
        let left : left_entry p x k *ℤ t.at ≡ along y.c tip_point = ap (λ z. z *ℤ t.at) (sym (i.entries k k3)) ∙ sym (along_single y.c k t.at k3) in
        subst (λ z. z ≤ℤ (y.h *ℤ t.den)) left
        (subst (λ z. (left_entry p x k *ℤ t.at) ≤ℤ (z *ℤ t.den)) (sym i.side)
        (tip_meets P.lines p k (IsSeenRow P r) (IsSeenRow P r) e bounds open_ (source_of p P.live r l) (source_row l w) (left_objective p o k) t tip))

    inner_entry : (i : ℕ) → i < 3 → t.times *ℤ entry (line_at Q.lines t.row).c i +ℤ pos 0 ≡ t.den *ℤ entry rest i
    inner_entry i l = by_case (nat_eq i k) refl
      where
        by_case : (b : Bool) → nat_eq i k ≡ b → t.times *ℤ entry (line_at Q.lines t.row).c i +ℤ pos 0 ≡ t.den *ℤ entry rest i
        by_case true g =
            let m : i ≡ k = same_place i k g in
            ap (λ j. t.times *ℤ entry (line_at Q.lines t.row).c j +ℤ pos 0) m
            ∙ ap (λ z. t.times *ℤ z +ℤ pos 0) (entry_at t.row on.row)
            ∙ ring ((t.times *ℤ left_entry p (line_at P.lines t.row) k) ∷ []) (var 0 ⊕ lit (pos 0)) (var 0) refl
            ∙ on.entry
            ∙ ap (λ z. t.den *ℤ z) (sym (s.is_rest k k3))
            ∙ ap (λ j. t.den *ℤ entry rest j) (sym m)
        by_case false g =
            let m : i ≢ k = other_place i k g in
            let d = (smaller_is_reduced P o r p Q rest s).dead i l (other_dead i l m) in
            ap (λ z. t.times *ℤ z +ℤ pos 0) (d.1 t.row (inside_at t.row on.row)) ∙ ring (t.times ∷ t.den ∷ []) (var 0 ⊗ lit (pos 0) ⊕ lit (pos 0)) (var 1 ⊗ lit (pos 0)) refl ∙ ap (λ z. t.den *ℤ z) (sym d.0)

    pub inner_best : IsBest all_seen Q rest (record { num = tip_point; den = t.den; items = (t.row, t.times) ∷ [] })
    inner_best =
        let one : (F : ℕ × ℤ → Type 0) → F (t.row, t.times) → All F ((t.row, t.times) ∷ []) = λ F a. All-cons F (t.row, t.times) [] a (All-nil F) in
        record {
          met = record { positive = on.positive; each = λ l w s. inner_row l w };
          dual = record {
            rows = one (λ item. item.0 < length Q.lines) (inside_at t.row on.row);
            seen_rows = one (λ item. all_seen item.0 ≡ true) refl;
            not_negative = one (λ item. pos 0 ≤ℤ item.1) on.not_negative;
            entries = inner_entry;
            sides = at_most_from_same _ _ (
                ap (λ z. t.times *ℤ z +ℤ pos 0) (side_at t.row on.row)
                ∙ ring ((t.times *ℤ left_side p (line_at P.lines t.row)) ∷ []) (var 0 ⊕ lit (pos 0)) (var 0) refl
                ∙ on.side
                ∙ ap (λ z. z *ℤ t.at) (sym (s.is_rest k k3))
                ∙ sym (along_single rest k t.at k3)
                );
          };
          num = subst (λ m. AreAtMost (num_most m) tip_point) (sym level_one) (single_small k (num_most 1) t.at k3 at_small);
          den = subst (λ m. unsigned_abs t.den ≤ den_most m) (sym level_one) den_small;
          few = subst (λ m. AreFew m (dual_most m) ((t.row, t.times) ∷ [])) (sym level_one) (record { few = lit≤ tt; small = one (λ item. unsigned_abs item.1 ≤ dual_most 1) times_small });
        }
