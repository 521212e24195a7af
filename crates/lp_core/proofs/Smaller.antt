-- The program without the variable of a pivot.
use Rattle.std.proofs.Common.{◌≡◌, ◌≢◌, ℕ, suc, ◌+◌, ◌*◌, ◌^◌, ◌<◌, ◌≤◌, min, max, List, [], ◌∷◌, length, refl, sym, ap, subst, ◌∙◌, arith, lit<, ◌⊎◌, inl, inr}
use Rattle.std.specs.Prelude.{ℤ, pos, negsuc, ◌-ℤ◌, ◌*ℤ◌, Bool, true, false, cond, nat_eq, slice_index_or, slice_set}
use Rattle.std.specs.Int.RustNames.{unsigned_abs}
use Rattle.std.proofs.lemmas.Int.{ints}
use Rattle.std.proofs.lemmas.Bool.Decides.{nat_tests}
use Rattle.std.proofs.lemmas.List.{get_or-set_same, get_or-set_other, length-set}
use Rattle.exact_algebra.specs.Poly.{var, lit, ◌⊖◌, ◌⊗◌}
use Rattle.exact_algebra.proofs.Normal.{ring}
use Rattle.exact_algebra.proofs.Order.{abs_product, abs_difference}
use Rattle.lp_cert.specs.Program.{entry, axis}
use Rattle.lp_core.specs.declared.reduced.Line.{Line}
use Rattle.lp_core.specs.Reduced.{Reduced}
use Rattle.lp_core.specs.declared.pivot.Pivot.{Pivot}
use Rattle.lp_core.specs.Lines.{line_at, is_seen}
use Rattle.lp_core.specs.Sizes.{level, entry_most, side_most, objective_most, AreAtMost, IsSmallLine}
use Rattle.lp_core.specs.Elimination.{AreEliminated, IsEliminated, IsRest, factor_of, source_of}
use Rattle.lp_core.specs.Search.{HasBox, IsReduced}
use Rattle.lp_core.proofs.Boxes.{axis_other, upper_seen, lower_seen, seen_cases}
use Rattle.lp_core.proofs.Fits.{at_place, pivot_small, sign_times}
use Rattle.lp_core.proofs.Levels.{line_fits, level_less, level_few, entry_some, entry_step, side_step, objective_step}
use Rattle.lp_core.proofs.Steps.{factor_small}
use Rattle.lp_core.proofs.Sums.{factor_cases}

-- row r of a program becomes an equation and eliminates a variable
pub record IsStep (P : Reduced) (o : List ℤ) (r : ℕ) (p : Pivot) (Q : Reduced) (rest : List ℤ) : Type 0 where
  pub reduced : IsReduced P o
  pub within : r < length P.lines
  pub line : p.line ≡ line_at P.lines r
  pub live : Q.live ≡ slice_set P.live p.place false
  pub count : length Q.lines ≡ min (length P.lines) (max r 6)
  pub each : AreEliminated p P.lines P.live r Q.lines
  pub is_rest : IsRest p o rest

both : (b : Bool) → b ≡ false → b ≡ true → ⊥
both true e f = grind (arith, e)
both false e f = grind (arith, f)

-- the variable of a pivot is live
pub pivot_live : (P : Reduced) (o : List ℤ) (r : ℕ) (p : Pivot) → IsReduced P o → r < length P.lines → p.line ≡ line_at P.lines r → slice_index_or P.live p.place false ≡ true
pivot_live P o r p q within line = by_case (slice_index_or P.live p.place false) refl
  where
    none : entry p.line.c p.place ≡ pos 0 → ⊥
    none e =
        let s : p.size ≡ pos 0 = sym p.is_size ∙ ap (λ z. p.sign *ℤ z) e ∙ ring (p.sign ∷ []) (var 0 ⊗ lit (pos 0)) (lit (pos 0)) refl in
        let h = p.positive in
        omega (arith, ints, s, h)

    by_case : (b : Bool) → slice_index_or P.live p.place false ≡ b → slice_index_or P.live p.place false ≡ true
    by_case true e = e
    by_case false e = absurd (none (ap (λ (x : Line). entry x.c p.place) line ∙ (q.dead p.place p.inside e).1 r within))

module _ (P : Reduced) (o : List ℤ) (r : ℕ) (p : Pivot) (Q : Reduced) (rest : List ℤ) (s : IsStep P o r p Q rest) where
  pub live_place : slice_index_or P.live p.place false ≡ true
  live_place = pivot_live P o r p s.reduced s.within s.line

  pub box_place : HasBox P.lines p.place
  box_place = s.reduced.boxes p.place p.inside live_place

  pub source_seen : (l : ℕ) → is_seen P.live r (source_of p P.live r l) ≡ true
  source_seen l = by_case (is_seen P.live r l) refl
    where
      by_case : (b : Bool) → is_seen P.live r l ≡ b → is_seen P.live r (cond b l (2 * p.place)) ≡ true
      by_case true e = e
      by_case false e = upper_seen P.live r p.place p.inside live_place

  pub source_within : (l : ℕ) → l < length Q.lines → source_of p P.live r l < length P.lines
  source_within l h = by_case (is_seen P.live r l)
    where
      by_case : (b : Bool) → cond b l (2 * p.place) < length P.lines
      by_case true = omega (arith, h, s.count)
      by_case false = omega (arith, box_place.within)

  -- a row that was seen stays at its place
  pub seen_source : (l : ℕ) → is_seen P.live r l ≡ true → source_of p P.live r l ≡ l
  seen_source l e = ap (λ b. cond b l (2 * p.place)) e

  pub seen_within : (l : ℕ) → l < length P.lines → is_seen P.live r l ≡ true → l < length Q.lines
  seen_within l h e = by_case (seen_cases P.live r l e)
    where
      by_case : (l < r) ⊎ ((k : ℕ) × (k < 3) × (slice_index_or P.live k false ≡ true) × ((l ≡ 2 * k) ⊎ (l ≡ 2 * k + 1))) → l < length Q.lines
      by_case (inl less) = omega (arith, less, h, s.count)
      by_case (inr (k, k3, live, inl f)) = omega (arith, k3, f, h, s.count)
      by_case (inr (k, k3, live, inr f)) = omega (arith, k3, f, h, s.count)

  pub seen_eliminated : (l : ℕ) → l < length P.lines → is_seen P.live r l ≡ true → IsEliminated p (line_at P.lines l) (line_at Q.lines l)
  seen_eliminated l h e = subst (λ i. IsEliminated p (line_at P.lines i) (line_at Q.lines l)) (seen_source l e) (s.each l (seen_within l h e))

  -- ---- one variable less
  pub levels : level P.live ≡ suc (level Q.live)
  levels = level_less P.live p.place s.reduced.three p.inside live_place ∙ ap (λ live. suc (level live)) (sym s.live)

  pub few : level Q.live < 3
  few = omega (arith, levels, level_few P.live)

  -- ---- sizes
  pub own_small : IsSmallLine (entry_most (suc (level Q.live))) (side_most (suc (level Q.live))) p.line
  own_small = subst (λ n. IsSmallLine (entry_most n) (side_most n) p.line) levels (subst (λ x. IsSmallLine (entry_most (level P.live)) (side_most (level P.live)) x) (sym s.line) (s.reduced.lines r s.within))

  pub line_small : (l : ℕ) → l < length P.lines → IsSmallLine (entry_most (suc (level Q.live))) (side_most (suc (level Q.live))) (line_at P.lines l)
  line_small l h = subst (λ n. IsSmallLine (entry_most n) (side_most n) (line_at P.lines l)) levels (s.reduced.lines l h)

  pub objective_small : AreAtMost (objective_most (suc (level Q.live))) o
  objective_small = subst (λ n. AreAtMost (objective_most n) o) levels s.reduced.objective

  pub size_small : unsigned_abs p.size ≤ entry_most (suc (level Q.live))
  size_small = pivot_small p (entry_most (suc (level Q.live))) (side_most (suc (level Q.live))) own_small

  difference_small : (f x t y : ℤ) (a b d e : ℕ) → unsigned_abs f ≤ a → unsigned_abs x ≤ b → unsigned_abs t ≤ d → unsigned_abs y ≤ e → unsigned_abs (f *ℤ x -ℤ t *ℤ y) ≤ a * b + d * e
  difference_small f x t y a b d e h i j k = abs_difference (f *ℤ x) (t *ℤ y) (a * b) (d * e) (abs_product f x a b h i) (abs_product t y d e j k)

  eliminated_small : (l : ℕ) → l < length Q.lines → IsSmallLine (entry_most (level Q.live)) (side_most (level Q.live)) (line_at Q.lines l)
  eliminated_small l h =
      let n = level Q.live in
      let m = entry_most (suc n) in
      let x = line_at P.lines (source_of p P.live r l) in
      let y = line_at Q.lines l in
      let e = s.each l h in
      let xs = line_small (source_of p P.live r l) (source_within l h) in
      let f = factor_small p x m (entry_some (suc n)) size_small in
      let t = sign_times p (entry x.c p.place) m (at_place m p.place x.c p.inside xs.entries) in
      let part : (k : ℕ) → k < 3 → unsigned_abs (entry y.c k) ≤ entry_most n = λ k l3.
      let d = difference_small (factor_of p x) (entry x.c k) (p.sign *ℤ entry x.c p.place) (entry p.line.c k) m m m m f (at_place m k x.c l3 xs.entries) t (at_place m k p.line.c l3 own_small.entries) in
      omega (arith, subst (λ z. unsigned_abs z ≤ m * m + m * m) (sym (e.entries k l3)) d, entry_step n few) in
      let d = difference_small (factor_of p x) x.h (p.sign *ℤ entry x.c p.place) p.line.h m (side_most (suc n)) m (side_most (suc n)) f xs.side t own_small.side in
      record {
        entries = record { first = part 0 (lit< tt); second = part 1 (lit< tt); third = part 2 (lit< tt) };
        side = omega (arith, subst (λ z. unsigned_abs z ≤ m * side_most (suc n) + m * side_most (suc n)) (sym e.side) d, side_step n few);
      }

  rest_small : AreAtMost (objective_most (level Q.live)) rest
  rest_small =
      let n = level Q.live in
      let m = entry_most (suc n) in
      let w = objective_most (suc n) in
      let t = sign_times p (entry o p.place) w (at_place w p.place o p.inside objective_small) in
      let part : (k : ℕ) → k < 3 → unsigned_abs (entry rest k) ≤ objective_most n = λ k l3.
      let d = difference_small p.size (entry o k) (p.sign *ℤ entry o p.place) (entry p.line.c k) m w w m size_small (at_place w k o l3 objective_small) t (at_place m k p.line.c l3 own_small.entries) in
      omega (arith, subst (λ z. unsigned_abs z ≤ m * w + w * m) (sym (s.is_rest k l3)) d, objective_step n few) in
      record { first = part 0 (lit< tt); second = part 1 (lit< tt); third = part 2 (lit< tt) }

  -- ---- variables that aren't live
  no_difference : (f x t y z : ℤ) → z ≡ f *ℤ x -ℤ t *ℤ y → x ≡ pos 0 → y ≡ pos 0 → z ≡ pos 0
  no_difference f x t y z e a b = e ∙ ap (λ u. f *ℤ u -ℤ t *ℤ y) a ∙ ap (λ u. f *ℤ pos 0 -ℤ t *ℤ u) b ∙ ring (f ∷ t ∷ []) (var 0 ⊗ lit (pos 0) ⊖ var 1 ⊗ lit (pos 0)) (lit (pos 0)) refl

  gone : (x : Line) → factor_of p x *ℤ entry x.c p.place -ℤ (p.sign *ℤ entry x.c p.place) *ℤ entry p.line.c p.place ≡ pos 0
  gone x = by_case (factor_of p x) (entry x.c p.place) (factor_cases p x)
    where
      by_case : (f e : ℤ) → (f ≡ p.size) ⊎ ((f ≡ pos 1) × (e ≡ pos 0)) → f *ℤ e -ℤ (p.sign *ℤ e) *ℤ entry p.line.c p.place ≡ pos 0
      by_case f e (inl g) =
          ap (λ z. z *ℤ e -ℤ (p.sign *ℤ e) *ℤ entry p.line.c p.place) (g ∙ sym p.is_size)
          ∙ ring (p.sign ∷ entry p.line.c p.place ∷ e ∷ []) ((var 0 ⊗ var 1) ⊗ var 2 ⊖ (var 0 ⊗ var 2) ⊗ var 1) (lit (pos 0)) refl
      by_case f e (inr g) =
          ap (λ z. f *ℤ z -ℤ (p.sign *ℤ z) *ℤ entry p.line.c p.place) g.1
          ∙ ring (f ∷ p.sign ∷ entry p.line.c p.place ∷ []) (var 0 ⊗ lit (pos 0) ⊖ (var 1 ⊗ lit (pos 0)) ⊗ var 2) (lit (pos 0)) refl

  rest_gone : entry rest p.place ≡ pos 0
  rest_gone =
      s.is_rest p.place p.inside ∙ ap (λ z. z *ℤ entry o p.place -ℤ (p.sign *ℤ entry o p.place) *ℤ entry p.line.c p.place) (sym p.is_size)
      ∙ ring (p.sign ∷ entry p.line.c p.place ∷ entry o p.place ∷ []) ((var 0 ⊗ var 1) ⊗ var 2 ⊖ (var 0 ⊗ var 2) ⊗ var 1) (lit (pos 0)) refl

  dead_before : (k : ℕ) → k ≢ p.place → slice_index_or Q.live k false ≡ false → slice_index_or P.live k false ≡ false
  dead_before k n e = sym (get_or-set_other P.live p.place k false false n) ∙ ap (λ (xs : List Bool). slice_index_or xs k false) (sym s.live) ∙ e

  dead_after : (k : ℕ) → k < 3 → slice_index_or Q.live k false ≡ false → (entry rest k ≡ pos 0) × ((l : ℕ) → l < length Q.lines → entry (line_at Q.lines l).c k ≡ pos 0)
  dead_after k l3 e = by_case (nat_eq k p.place) refl
    where
      by_case : (b : Bool) → nat_eq k p.place ≡ b → (entry rest k ≡ pos 0) × ((l : ℕ) → l < length Q.lines → entry (line_at Q.lines l).c k ≡ pos 0)
      by_case true g =
          let m : k ≡ p.place = grind (arith, nat_tests) in (
            subst (λ i. entry rest i ≡ pos 0) (sym m) rest_gone,
            λ l h. subst (λ i. entry (line_at Q.lines l).c i ≡ pos 0) (sym m) ((s.each l h).entries p.place p.inside ∙ gone (line_at P.lines (source_of p P.live r l))),
          )
      by_case false g =
          let n : k ≢ p.place = grind (arith, nat_tests) in
          let d = s.reduced.dead k l3 (dead_before k n e) in
          let own : entry p.line.c k ≡ pos 0 = ap (λ (x : Line). entry x.c k) s.line ∙ d.1 r s.within in (
            no_difference p.size (entry o k) (p.sign *ℤ entry o p.place) (entry p.line.c k) (entry rest k) (s.is_rest k l3) d.0 own,
            λ l h. let x = line_at P.lines (source_of p P.live r l) in
                no_difference (factor_of p x) (entry x.c k) (p.sign *ℤ entry x.c p.place) (entry p.line.c k) (entry (line_at Q.lines l).c k) ((s.each l h).entries k l3) (d.1 (source_of p P.live r l) (source_within l h)) own,
          )

  -- ---- boxes
  live_before : (k : ℕ) → slice_index_or Q.live k false ≡ true → (k ≢ p.place) × (slice_index_or P.live k false ≡ true)
  live_before k e =
      let f : slice_index_or (slice_set P.live p.place false) k false ≡ true = subst (λ (xs : List Bool). slice_index_or xs k false ≡ true) s.live e in
      let n : k ≢ p.place = λ m. both (slice_index_or (slice_set P.live p.place false) k false) (ap (λ i. slice_index_or (slice_set P.live p.place false) i false) m ∙ get_or-set_same P.live p.place false false (omega (arith, s.reduced.three, p.inside))) f in
      (n, sym (get_or-set_other P.live p.place k false false n) ∙ f)

  same_line : (l k : ℕ) (t : ℤ) → l < length P.lines → is_seen P.live r l ≡ true → (line_at P.lines l).c ≡ axis k t → k ≢ p.place → line_at Q.lines l ≡ line_at P.lines l
  same_line l k t h e c n = (seen_eliminated l h e).same (ap (λ v. entry v p.place) c ∙ axis_other k p.place t (λ m. n (sym m)))

  boxes_after : (k : ℕ) → k < 3 → slice_index_or Q.live k false ≡ true → HasBox Q.lines k
  boxes_after k l3 e =
      let b = live_before k e in
      let box = s.reduced.boxes k l3 b.1 in
      let us = upper_seen P.live r k l3 b.1 in
      let ls = lower_seen P.live r k l3 b.1 in
      record {
        within = seen_within (2 * k + 1) box.within ls;
        upper = ap (λ (x : Line). x.c) (same_line (2 * k) k (pos 1) (omega (arith, box.within)) us box.upper b.0) ∙ box.upper;
        lower = ap (λ (x : Line). x.c) (same_line (2 * k + 1) k (negsuc 0) box.within ls box.lower b.0) ∙ box.lower;
      }

  pub smaller_is_reduced : IsReduced Q rest
  smaller_is_reduced = record {
    three = ap (λ (xs : List Bool). length xs) s.live ∙ length-set P.live p.place false ∙ s.reduced.three;
    few = omega (arith, s.count, s.reduced.few);
    lines = eliminated_small;
    objective = rest_small;
    dead = dead_after;
    boxes = boxes_after;
  }

-- ---- sizes of rows
pub small_lines : (P : Reduced) (o : List ℤ) → IsReduced P o → (l : ℕ) → l < length P.lines → IsSmallLine (2 ^ 10) (2 ^ 80) (line_at P.lines l)
small_lines P o ok l within = line_fits (level P.live) (line_at P.lines l) (ok.lines l within)

pub small_line : (P : Reduced) (o : List ℤ) (r : ℕ) (x : Line) → IsReduced P o → r < length P.lines → x ≡ line_at P.lines r → IsSmallLine (2 ^ 10) (2 ^ 80) x
small_line P o r x ok within from = subst (λ y. IsSmallLine (2 ^ 10) (2 ^ 80) y) (sym from) (small_lines P o ok r within)
