-- What is left of the rows of a program of three variables on the plane of one of them.
use Rattle.std.proofs.Common.{◌≡◌, ◌≢◌, ℕ, zero, suc, ◌+◌, ◌*◌, ◌<◌, ◌≤◌, ◌^◌, List, [], ◌∷◌, ◌++◌, length, max, refl, sym, ap, subst, ◌∙◌, arith, lit<, lit≤, below_more, inl, inr}
use Rattle.std.specs.Prelude.{ℤ, pos, negsuc, ◌-ℤ◌, ◌*ℤ◌, ◌<ℤ◌, All}
use Rattle.std.specs.Int.RustNames.{unsigned_abs}
use Rattle.std.proofs.lemmas.Int.{ints}
use Rattle.std.proofs.lemmas.List.{get_or_append_left, get_or_at, length-append}
use Rattle.std.proofs.lemmas.List.Elements.{All-cons, All-nil}
use Rattle.exact_algebra.specs.Poly.{var, lit, ◌⊖◌, ◌⊗◌}
use Rattle.exact_algebra.proofs.Normal.{ring}
use Rattle.lp_cert.specs.declared.rows.Row.{Row}
use Rattle.lp_cert.specs.Program.{Program, IsProgram, IsRow, axis, box_rows, entry, row_at}
use Rattle.lp_core.specs.declared.reduced.Line.{Line}
use Rattle.lp_core.specs.declared.pivot.Pivot.{Pivot}
use Rattle.lp_core.specs.Bounds.{left_objective}
use Rattle.lp_core.specs.Elimination.{factor_of}
use Rattle.lp_core.specs.Lines.{line_at}
use Rattle.lp_core.specs.Planar.{line_of, lines_of, whole_of}
use Rattle.lp_core.specs.Search.{IsReduced}
use Rattle.lp_core.specs.Sizes.{level, objective_most, AreAtMost, IsSmallLine}
use Rattle.lp_core.specs.Smaller.{eliminated, rest_of, smaller}
use Rattle.lp_core.specs.Turned.{AreLeft, IsLeft, IsTurned, IsTurnedLine, turned, turned_row}
use Rattle.lp_core.proofs.Boxes.{axis_other}
use Rattle.lp_core.proofs.Edges.{eliminated_is}
use Rattle.lp_core.proofs.Fits.{at_place, pivot_small, sign_times}
use Rattle.lp_core.proofs.Halves.{whole_count, whole_is, whole_line}
use Rattle.lp_core.proofs.Narrow.{difference_within}
use Rattle.lp_core.proofs.Smaller.{IsStep, levels}
use Rattle.lp_core.proofs.Steps.{eliminated_same}
use Rattle.lp_core.proofs.Sums.{factor_cases}
use Rattle.lp_core.proofs.Turned.{row_inside, turned_inside}
use Rattle.lp_core.proofs.Views.{eliminated_unique, smaller_count, smaller_line}
use Rattle.lp_core.proofs.Wholes.{row_right, whole_level}

-- ---- a row
pub small_row : (row : Row) → IsRow 3 row → unsigned_abs row.h ≤ 2 ^ 50 → IsSmallLine 1 (2 ^ 50) (line_of row)
small_row row r h = record {
  entries = record {
    first = r.entries 0 (pos 0) (omega (arith, r.three));
    second = r.entries 1 (pos 0) (omega (arith, r.three));
    third = r.entries 2 (pos 0) (omega (arith, r.three));
  };
  side = h;
}

-- the entry of the variable that goes is 1 or -1
pub one_size : (p : Pivot) (h : ℕ) → IsSmallLine 1 h p.line → p.size ≡ pos 1
one_size p h s = by_size p.size p.positive (pivot_small p 1 h s)
  where
    by_size : (z : ℤ) → pos 0 <ℤ z → unsigned_abs z ≤ 1 → z ≡ pos 1
    by_size z a b = omega (arith, ints, a, b)

factor_one : (p : Pivot) (x : Line) → p.size ≡ pos 1 → factor_of p x ≡ pos 1
factor_one p x e = elim (factor_cases p x) [ inl f ↦ f ∙ e | inr f ↦ f.0 ]

once : (a t b : ℤ) → a -ℤ t *ℤ b ≡ pos 1 *ℤ a -ℤ t *ℤ b
once a t b = ring (a ∷ t ∷ b ∷ []) (var 0 ⊖ var 1 ⊗ var 2) (lit (pos 1) ⊗ var 0 ⊖ var 1 ⊗ var 2) refl

pub left_row : (p : Pivot) (x : Line) (a b h t : ℤ) → p.size ≡ pos 1 → t ≡ p.sign *ℤ entry x.c p.place
    → a ≡ entry x.c (turned p.place 0) -ℤ t *ℤ entry p.line.c (turned p.place 0)
    → b ≡ entry x.c (turned p.place 1) -ℤ t *ℤ entry p.line.c (turned p.place 1)
    → h ≡ x.h -ℤ t *ℤ p.line.h
    → IsLeft p x (record { c = a ∷ b ∷ pos 0 ∷ []; h = h })
left_row p x a b h t size times first second side =
    let e = eliminated_is p x in
    let f : factor_of p x ≡ pos 1 = factor_one p x size in
    let part : (k : ℕ) (z : ℤ) → k < 3 → z ≡ entry x.c k -ℤ t *ℤ entry p.line.c k → z ≡ entry (eliminated p x).c k =
    λ k z l g. g ∙ once (entry x.c k) t (entry p.line.c k) ∙ ap (λ s. pos 1 *ℤ entry x.c k -ℤ s *ℤ entry p.line.c k) times
    ∙ ap (λ s. s *ℤ entry x.c k -ℤ (p.sign *ℤ entry x.c p.place) *ℤ entry p.line.c k) (sym f) ∙ sym (e.entries k l) in
    record {
      entries = λ k l. by_place (λ k. entry (eliminated p x).c (turned p.place k)) a b
          (part (turned p.place 0) a (turned_inside p.place 0 p.inside (lit< tt)) first)
          (part (turned p.place 1) b (turned_inside p.place 1 p.inside (lit< tt)) second)
          (sym (ap (λ k. entry (eliminated p x).c k) (last p.place p.inside) ∙ e.entries p.place p.inside ∙ ap (λ s. s *ℤ entry x.c p.place -ℤ (p.sign *ℤ entry x.c p.place) *ℤ entry p.line.c p.place) (f ∙ sym size ∙ sym p.is_size)
          ∙ ring (p.sign ∷ entry p.line.c p.place ∷ entry x.c p.place ∷ []) ((var 0 ⊗ var 1) ⊗ var 2 ⊖ (var 0 ⊗ var 2) ⊗ var 1) (lit (pos 0)) refl)) k l;
      side = side ∙ once x.h t p.line.h ∙ ap (λ s. pos 1 *ℤ x.h -ℤ s *ℤ p.line.h) times
          ∙ ap (λ s. s *ℤ x.h -ℤ (p.sign *ℤ entry x.c p.place) *ℤ p.line.h) (sym f) ∙ sym e.side;
    }
  where
    last : (g : ℕ) → g < 3 → turned g 2 ≡ g
    last zero l = refl
    last (suc zero) l = refl
    last (suc (suc zero)) l = refl
    last (suc (suc (suc g))) l = absurd (omega (arith, l))

    by_place : (f : ℕ → ℤ) (a b : ℤ) → a ≡ f 0 → b ≡ f 1 → pos 0 ≡ f 2 → (k : ℕ) → k < 3 → entry (a ∷ b ∷ pos 0 ∷ []) k ≡ f k
    by_place f a b p q r zero l = p
    by_place f a b p q r (suc zero) l = q
    by_place f a b p q r (suc (suc zero)) l = r
    by_place f a b p q r (suc (suc (suc k))) l = absurd (omega (arith, l))

pub right_row_on : (a b h : ℤ) → unsigned_abs a ≤ 2 → unsigned_abs b ≤ 2 → unsigned_abs h ≤ 2 ^ 51 → IsRow 2 (record { c = a ∷ b ∷ pos 0 ∷ []; h = h })
right_row_on a b h p q r =
    let F = λ (x : ℤ). unsigned_abs x ≤ 3 in
    record {
      three = refl;
      entries = All-cons F a (b ∷ pos 0 ∷ []) (omega (arith, p)) (All-cons F b (pos 0 ∷ []) (omega (arith, q)) (All-cons F (pos 0) [] (lit≤ tt) (All-nil F)));
      zeros = zeros;
      side = omega (arith, r);
    }
  where
    zeros : (k : ℕ) → 2 ≤ k → entry (a ∷ b ∷ pos 0 ∷ []) k ≡ pos 0
    zeros zero l = absurd (omega (arith, l))
    zeros (suc zero) l = absurd (omega (arith, l))
    zeros (suc (suc zero)) l = refl
    zeros (suc (suc (suc k))) l = refl

-- ---- the box of the variables that stay
axis_turned : (g i k : ℕ) (t : ℤ) → g < 3 → i < 2 → k < 3 → entry (axis i t) k ≡ entry (axis (turned g i) t) (turned g k)
axis_turned zero zero zero t a b d = refl
axis_turned zero zero (suc zero) t a b d = refl
axis_turned zero zero (suc (suc zero)) t a b d = refl
axis_turned zero (suc zero) zero t a b d = refl
axis_turned zero (suc zero) (suc zero) t a b d = refl
axis_turned zero (suc zero) (suc (suc zero)) t a b d = refl
axis_turned (suc zero) zero zero t a b d = refl
axis_turned (suc zero) zero (suc zero) t a b d = refl
axis_turned (suc zero) zero (suc (suc zero)) t a b d = refl
axis_turned (suc zero) (suc zero) zero t a b d = refl
axis_turned (suc zero) (suc zero) (suc zero) t a b d = refl
axis_turned (suc zero) (suc zero) (suc (suc zero)) t a b d = refl
axis_turned (suc (suc zero)) zero zero t a b d = refl
axis_turned (suc (suc zero)) zero (suc zero) t a b d = refl
axis_turned (suc (suc zero)) zero (suc (suc zero)) t a b d = refl
axis_turned (suc (suc zero)) (suc zero) zero t a b d = refl
axis_turned (suc (suc zero)) (suc zero) (suc zero) t a b d = refl
axis_turned (suc (suc zero)) (suc zero) (suc (suc zero)) t a b d = refl
axis_turned (suc (suc (suc g))) i k t a b d = absurd (omega (arith, a))
axis_turned g (suc (suc i)) k t a b d = absurd (omega (arith, b))
axis_turned g i (suc (suc (suc k))) t a b d = absurd (omega (arith, d))

record IsStaying (g i : ℕ) : Type 0 where
  pub upper : turned_row g (2 * i) ≡ 2 * turned g i
  pub lower : turned_row g (2 * i + 1) ≡ 2 * turned g i + 1
  pub apart : g ≢ turned g i

staying : (g i : ℕ) → g < 3 → i < 2 → IsStaying g i
staying zero zero a b = record { upper = refl; lower = refl; apart = λ e. absurd (omega (arith, e)) }
staying zero (suc zero) a b = record { upper = refl; lower = refl; apart = λ e. absurd (omega (arith, e)) }
staying (suc zero) zero a b = record { upper = refl; lower = refl; apart = λ e. absurd (omega (arith, e)) }
staying (suc zero) (suc zero) a b = record { upper = refl; lower = refl; apart = λ e. absurd (omega (arith, e)) }
staying (suc (suc zero)) zero a b = record { upper = refl; lower = refl; apart = λ e. absurd (omega (arith, e)) }
staying (suc (suc zero)) (suc zero) a b = record { upper = refl; lower = refl; apart = λ e. absurd (omega (arith, e)) }
staying (suc (suc (suc g))) i a b = absurd (omega (arith, a))
staying g (suc (suc i)) a b = absurd (omega (arith, b))

-- a row of the box has nothing of the variable that goes
axis_left : (p : Pivot) (i : ℕ) (t : ℤ) (x y : Line) → i < 2 → x.c ≡ axis (turned p.place i) t → length x.c ≡ 3 → y.c ≡ axis i t → y.h ≡ x.h → IsLeft p x y
axis_left p i t x y few own three c h =
    let none : entry x.c p.place ≡ pos 0 = ap (λ v. entry v p.place) own ∙ axis_other (turned p.place i) p.place t (staying p.place i p.inside few).apart in
    let same : x ≡ eliminated p x = eliminated_unique p x x three (eliminated_same p x none) in
    subst (λ z. IsTurnedLine p.place z y) same (record {
      entries = λ k l. ap (λ v. entry v k) c ∙ axis_turned p.place i k t p.inside few l ∙ ap (λ v. entry v (turned p.place k)) (sym own);
      side = h;
    })

pub box_left : (P : Program) (p : Pivot) (Q : Program) (u v l m : ℤ) → IsProgram P → P.dimension ≡ 3 → Q.rows ≡ box_rows 0 (u ∷ v ∷ []) (l ∷ m ∷ [])
    → u ≡ (row_at P (2 * turned p.place 0)).h → v ≡ (row_at P (2 * turned p.place 1)).h → l ≡ (row_at P (2 * turned p.place 0 + 1)).h → m ≡ (row_at P (2 * turned p.place 1 + 1)).h → AreLeft p P 4 Q
box_left P p Q u v l m h three is eu ev el em = λ i few. subst (λ (rows : List Row). IsLeft p (line_of (row_at P (turned_row p.place i))) (line_of (row_at (record { dimension = 2; rows = rows }) i))) (sym is) (by_number i few)
  where
    rows : Program
    rows = record { dimension = 2; rows = box_rows 0 (u ∷ v ∷ []) (l ∷ m ∷ []) }

    upper : (i : ℕ) (z : ℤ) (y : Line) → i < 2 → z ≡ (row_at P (2 * turned p.place i)).h → y.c ≡ axis i (pos 1) → y.h ≡ z → IsLeft p (line_of (row_at P (turned_row p.place (2 * i)))) y
    upper i z y few e c s =
        let inside = turned_inside p.place i p.inside (omega (arith, few)) in
        subst (λ n. IsLeft p (line_of (row_at P n)) y) (sym (staying p.place i p.inside few).upper)
        (axis_left p i (pos 1) (line_of (row_at P (2 * turned p.place i))) y few (h.box (turned p.place i) (omega (arith, inside, three))).0 (row_right P (2 * turned p.place i) h (omega (arith, inside, three, h.has_box))).three c (s ∙ e))

    lower : (i : ℕ) (z : ℤ) (y : Line) → i < 2 → z ≡ (row_at P (2 * turned p.place i + 1)).h → y.c ≡ axis i (negsuc 0) → y.h ≡ z → IsLeft p (line_of (row_at P (turned_row p.place (2 * i + 1)))) y
    lower i z y few e c s =
        let inside = turned_inside p.place i p.inside (omega (arith, few)) in
        subst (λ n. IsLeft p (line_of (row_at P n)) y) (sym (staying p.place i p.inside few).lower)
        (axis_left p i (negsuc 0) (line_of (row_at P (2 * turned p.place i + 1))) y few (h.box (turned p.place i) (omega (arith, inside, three))).1 (row_right P (2 * turned p.place i + 1) h (omega (arith, inside, three, h.has_box))).three c (s ∙ e))

    by_number : (i : ℕ) → i < 4 → IsLeft p (line_of (row_at P (turned_row p.place i))) (line_of (row_at rows i))
    by_number zero few = upper 0 u (line_of (row_at rows 0)) (lit< tt) eu refl refl
    by_number (suc zero) few = lower 0 l (line_of (row_at rows 1)) (lit< tt) el refl refl
    by_number (suc (suc zero)) few = upper 1 v (line_of (row_at rows 2)) (lit< tt) ev refl refl
    by_number (suc (suc (suc zero))) few = lower 1 m (line_of (row_at rows 3)) (lit< tt) em refl refl
    by_number (suc (suc (suc (suc i)))) few = absurd (omega (arith, few))

-- ---- one more row
pub left_more : (p : Pivot) (P Q R : Program) (row : Row) (n : ℕ) → length Q.rows ≡ n → AreLeft p P n Q → R.rows ≡ Q.rows ++ row ∷ [] → IsLeft p (line_of (row_at P (turned_row p.place n))) (line_of row) → AreLeft p P (n + 1) R
left_more p P Q R row n count h is new =
    let d : Row = record { c = []; h = pos 0 } in
    let F = λ (i : ℕ). λ (x : Row). IsLeft p (line_of (row_at P (turned_row p.place i))) (line_of x) in
    below_more (λ i. IsLeft p (line_of (row_at P (turned_row p.place i))) (line_of (row_at R i))) n
    (λ i l. subst (λ x. F i x) (sym (ap (λ (xs : List Row). row_at (record { dimension = 2; rows = xs }) i) is ∙ get_or_append_left Q.rows (row ∷ []) d i (omega (arith, count, l)))) (h i l))
    (subst (λ x. F n x) (sym (ap (λ (xs : List Row). row_at (record { dimension = 2; rows = xs }) n) is ∙ get_or_at Q.rows row [] d n count)) new)

pub count_more : (Q R : Program) (row : Row) (n : ℕ) → length Q.rows ≡ n → R.rows ≡ Q.rows ++ row ∷ [] → length R.rows ≡ n + 1
count_more Q R row n count is = let a : length R.rows ≡ length (Q.rows ++ row ∷ []) = ap (λ (xs : List Row). length xs) is in omega (arith, a, length-append Q.rows (row ∷ []), count)

-- ---- sizes
pub plane_small : (P : Program) (r : ℕ) (x : Line) → IsProgram P → P.dimension ≡ 3 → r < length P.rows → unsigned_abs (row_at P r).h ≤ 2 ^ 50 → x ≡ line_at (lines_of P) r → IsSmallLine 1 (2 ^ 50) x
plane_small P r x h three within side e =
    subst (λ y. IsSmallLine 1 (2 ^ 50) y) (sym (e ∙ whole_line P r within)) (small_row (row_at P r) (subst (λ d. IsRow d (row_at P r)) three (row_right P r h within)) side)

pub plane_objective : (P : Program) (o : List ℤ) → IsProgram P → P.dimension ≡ 3 → IsReduced (whole_of P) o → AreAtMost 4096 o
plane_objective P o h three q = subst (λ n. AreAtMost (objective_most n) o) (whole_level P (whole_of P) h (whole_is P) ∙ three) q.objective

-- ---- the objective
pub rest_part : (p : Pivot) (o : List ℤ) (k : ℕ) → k < 3 → entry (rest_of p o) k ≡ left_objective p o k
unfolding rest_of
rest_part p o zero l = refl
rest_part p o (suc zero) l = refl
rest_part p o (suc (suc zero)) l = refl
rest_part p o (suc (suc (suc k))) l = absurd (omega (arith, l))

pub rest_within : (p : Pivot) (h : ℕ) (o : List ℤ) (k : ℕ) → IsSmallLine 1 h p.line → AreAtMost 4096 o → k < 3 → unsigned_abs (entry (rest_of p o) k) ≤ 8192
rest_within p h o k s small l =
    let t = sign_times p (entry o p.place) 4096 (at_place 4096 p.place o p.inside small) in
    let d = difference_within p.size (entry o k) (p.sign *ℤ entry o p.place) (entry p.line.c k) 1 4096 4096 1 (pivot_small p 1 h s) (at_place 4096 k o l small) t (at_place 1 k p.line.c l s.entries) in
    subst (λ z. unsigned_abs z ≤ 8192) (sym (rest_part p o k l)) d

pub rest_last : (p : Pivot) (o : List ℤ) → entry (rest_of p o) (turned p.place 2) ≡ pos 0
rest_last p o =
    ap (λ k. entry (rest_of p o) k) (last p.place p.inside) ∙ rest_part p o p.place p.inside
    ∙ ap (λ z. z *ℤ entry o p.place -ℤ (p.sign *ℤ entry o p.place) *ℤ entry p.line.c p.place) (sym p.is_size)
    ∙ ring (p.sign ∷ entry p.line.c p.place ∷ entry o p.place ∷ []) ((var 0 ⊗ var 1) ⊗ var 2 ⊖ (var 0 ⊗ var 2) ⊗ var 1) (lit (pos 0)) refl
  where
    last : (g : ℕ) → g < 3 → turned g 2 ≡ g
    last zero l = refl
    last (suc zero) l = refl
    last (suc (suc zero)) l = refl
    last (suc (suc (suc g))) l = absurd (omega (arith, l))

pub rest_small_on : (p : Pivot) (h : ℕ) (o : List ℤ) → IsSmallLine 1 h p.line → AreAtMost 4096 o → AreAtMost 8192 (rest_of p o)
rest_small_on p h o s small = record { first = rest_within p h o 0 s small (lit< tt); second = rest_within p h o 1 s small (lit< tt); third = rest_within p h o 2 s small (lit< tt) }

pub objective_left : (p : Pivot) (o : List ℤ) (a b : ℤ) → a ≡ entry (rest_of p o) (turned p.place 0) → b ≡ entry (rest_of p o) (turned p.place 1) → (k : ℕ) → k < 3 → entry (a ∷ b ∷ pos 0 ∷ []) k ≡ entry (rest_of p o) (turned p.place k)
objective_left p o a b e f zero l = e
objective_left p o a b e f (suc zero) l = f
objective_left p o a b e f (suc (suc zero)) l = sym (rest_last p o)
objective_left p o a b e f (suc (suc (suc k))) l = absurd (omega (arith, l))

-- ---- the program
pub plane_turned : (P : Program) (v : Pivot) (o : List ℤ) (r : ℕ) (Q : Program) → IsStep (whole_of P) o r v (smaller v (whole_of P) r) (rest_of v o) → IsProgram P → P.dimension ≡ 3 → r < length P.rows
    → IsProgram Q → Q.dimension ≡ 2 → length Q.rows ≡ max r 6 → AreLeft v P (max r 6) Q → IsTurned v.place (smaller v (whole_of P) r) (whole_of Q)
plane_turned P v o r Q s h three within g two count left =
    let total : length (smaller v (whole_of P) r).lines ≡ max r 6 = omega (arith, smaller_count v (whole_of P) r, whole_count P, within, h.has_box, three) in
    record {
      count = omega (arith, whole_count Q, count, total);
      levels = omega (arith, whole_level Q (whole_of Q) g (whole_is Q), two, whole_level P (whole_of P) h (whole_is P), three, levels (whole_of P) o r v (smaller v (whole_of P) r) (rest_of v o) s);
      each = λ l w.
          let few : l < max r 6 = omega (arith, w, total) in
          let inside : turned_row v.place l < max r 6 = row_inside v.place l (max r 6) v.inside (omega arith) few in
          let line = smaller_line P v r (turned_row v.place l) three (omega (arith, inside, total)) ∙ ap (λ x. eliminated v x) (whole_line P (turned_row v.place l) (omega (arith, inside, within, h.has_box, three))) in
          subst (λ z. IsTurnedLine v.place (line_at (smaller v (whole_of P) r).lines (turned_row v.place l)) z) (sym (whole_line Q l (omega (arith, few, count))))
          (subst (λ z. IsTurnedLine v.place z (line_of (row_at Q l))) (sym line) (left l few));
    }
