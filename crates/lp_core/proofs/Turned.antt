-- A program of which two variables are left, at the first two places.
use Rattle.std.proofs.Common.{◌≡◌, ℕ, zero, suc, ◌+◌, ◌*◌, ◌/◌, ◌%◌, ◌<◌, ◌≤◌, ◌^◌, List, [], ◌∷◌, ◌++◌, length, map, get_or, max, min, refl, sym, ap, subst, ◌∙◌, arith, lit<, lit≤, ◌⊎◌, inl, inr}
use Rattle.std.specs.Prelude.{ℤ, pos, negsuc, ◌+ℤ◌, ◌-ℤ◌, ◌*ℤ◌, ◌<ℤ◌, ◌≤ℤ◌, All, Bool, true, false, cond, nat_eq, nat_lt}
use Rattle.std.specs.Int.RustNames.{unsigned_abs}
use Rattle.std.proofs.lemmas.Bool.Decides.{nat_tests}
use Rattle.std.proofs.lemmas.Int.{ints}
use Rattle.std.proofs.lemmas.List.{get_or-map, length-map}
use Rattle.exact_algebra.specs.Normal.{is_nought}
use Rattle.exact_algebra.specs.Poly.{var, lit, ◌⊕◌, ◌⊖◌, ◌⊗◌}
use Rattle.exact_algebra.specs.Sums.{total_by}
use Rattle.exact_algebra.proofs.Normal.{ring}
use Rattle.exact_algebra.proofs.Sums.{total_by_same}
use Rattle.lp_cert.specs.Program.{entry}
use Rattle.lp_core.specs.declared.reduced.Line.{Line}
use Rattle.lp_core.specs.declared.pivot.Pivot.{Pivot}
use Rattle.lp_core.specs.declared.search.Outcome.{Outcome}
use Rattle.lp_core.specs.declared.search.Outcome.TheVariants.{Best, Infeasible}
use Rattle.lp_core.specs.Lines.{all_seen, along, line_at, line_sum, line_sides}
use Rattle.lp_core.specs.Reduced.{Reduced}
use Rattle.lp_core.specs.Search.{IsBest, IsEmpty, IsOutcome}
use Rattle.lp_core.specs.Sizes.{level, den_most, num_most, dual_most, farkas_most, AreAtMost, AreFew}
use Rattle.lp_core.specs.Turned.{IsTurned, IsTurnedLine, items_back, num_back, outcome_back, turned, turned_item, turned_row}
use Rattle.lp_core.proofs.Along.{along_is, same_entries, same_entries_right}
use Rattle.lp_core.proofs.Fits.{at_place}
use Rattle.lp_core.proofs.Sums.{total_by-map}

-- ---- places and numbers
pub turned_inside : (g k : ℕ) → g < 3 → k < 3 → turned g k < 3
turned_inside zero zero a b = lit< tt
turned_inside zero (suc zero) a b = lit< tt
turned_inside zero (suc (suc zero)) a b = lit< tt
turned_inside (suc zero) zero a b = lit< tt
turned_inside (suc zero) (suc zero) a b = lit< tt
turned_inside (suc zero) (suc (suc zero)) a b = lit< tt
turned_inside (suc (suc zero)) zero a b = lit< tt
turned_inside (suc (suc zero)) (suc zero) a b = lit< tt
turned_inside (suc (suc zero)) (suc (suc zero)) a b = lit< tt
turned_inside (suc (suc (suc g))) k a b = absurd (omega (arith, a))
turned_inside g (suc (suc (suc k))) a b = absurd (omega (arith, b))

pub turned_twice : (g k : ℕ) → g < 3 → k < 3 → turned g (turned g k) ≡ k
turned_twice zero zero a b = refl
turned_twice zero (suc zero) a b = refl
turned_twice zero (suc (suc zero)) a b = refl
turned_twice (suc zero) zero a b = refl
turned_twice (suc zero) (suc zero) a b = refl
turned_twice (suc zero) (suc (suc zero)) a b = refl
turned_twice (suc (suc zero)) zero a b = refl
turned_twice (suc (suc zero)) (suc zero) a b = refl
turned_twice (suc (suc zero)) (suc (suc zero)) a b = refl
turned_twice (suc (suc (suc g))) k a b = absurd (omega (arith, a))
turned_twice g (suc (suc (suc k))) a b = absurd (omega (arith, b))

-- the rows of a box are exchanged, and the others stay
pub row_later : (g l : ℕ) → 6 ≤ l → turned_row g l ≡ l
row_later g l h = let e : nat_lt l 6 ≡ false = grind (arith, nat_tests) in ap (λ b. cond b (2 * turned g (l / 2) + l % 2) l) e

pub gone_rows : (g : ℕ) → g < 3 → (turned_row g 4 ≡ 2 * g) × (turned_row g 5 ≡ 2 * g + 1)
gone_rows zero a = (refl, refl)
gone_rows (suc zero) a = (refl, refl)
gone_rows (suc (suc zero)) a = (refl, refl)
gone_rows (suc (suc (suc g))) a = absurd (omega (arith, a))

record IsExchanged (g l : ℕ) : Type 0 where
  pub inside : turned_row g l < 6
  pub twice : turned_row g (turned_row g l) ≡ l

exchanged : (g l : ℕ) → g < 3 → l < 6 → IsExchanged g l
exchanged zero zero a b = record { inside = lit< tt; twice = refl }
exchanged zero (suc zero) a b = record { inside = lit< tt; twice = refl }
exchanged zero (suc (suc zero)) a b = record { inside = lit< tt; twice = refl }
exchanged zero (suc (suc (suc zero))) a b = record { inside = lit< tt; twice = refl }
exchanged zero (suc (suc (suc (suc zero)))) a b = record { inside = lit< tt; twice = refl }
exchanged zero (suc (suc (suc (suc (suc zero))))) a b = record { inside = lit< tt; twice = refl }
exchanged (suc zero) zero a b = record { inside = lit< tt; twice = refl }
exchanged (suc zero) (suc zero) a b = record { inside = lit< tt; twice = refl }
exchanged (suc zero) (suc (suc zero)) a b = record { inside = lit< tt; twice = refl }
exchanged (suc zero) (suc (suc (suc zero))) a b = record { inside = lit< tt; twice = refl }
exchanged (suc zero) (suc (suc (suc (suc zero)))) a b = record { inside = lit< tt; twice = refl }
exchanged (suc zero) (suc (suc (suc (suc (suc zero))))) a b = record { inside = lit< tt; twice = refl }
exchanged (suc (suc zero)) zero a b = record { inside = lit< tt; twice = refl }
exchanged (suc (suc zero)) (suc zero) a b = record { inside = lit< tt; twice = refl }
exchanged (suc (suc zero)) (suc (suc zero)) a b = record { inside = lit< tt; twice = refl }
exchanged (suc (suc zero)) (suc (suc (suc zero))) a b = record { inside = lit< tt; twice = refl }
exchanged (suc (suc zero)) (suc (suc (suc (suc zero)))) a b = record { inside = lit< tt; twice = refl }
exchanged (suc (suc zero)) (suc (suc (suc (suc (suc zero))))) a b = record { inside = lit< tt; twice = refl }
exchanged (suc (suc (suc g))) l a b = absurd (omega (arith, a))
exchanged g (suc (suc (suc (suc (suc (suc l)))))) a b = absurd (omega (arith, b))

pub row_inside : (g l n : ℕ) → g < 3 → 6 ≤ n → l < n → turned_row g l < n
row_inside g l n a six h = by_case (nat_lt l 6) refl
  where
    by_case : (b : Bool) → nat_lt l 6 ≡ b → turned_row g l < n
    by_case true e = let i : l < 6 = grind (arith, nat_tests) in let x = (exchanged g l a i).inside in omega (arith, x, six)
    by_case false e = let i : 6 ≤ l = grind (arith, nat_tests) in subst (λ z. z < n) (sym (row_later g l i)) h

pub row_twice : (g l : ℕ) → g < 3 → turned_row g (turned_row g l) ≡ l
row_twice g l a = by_case (nat_lt l 6) refl
  where
    by_case : (b : Bool) → nat_lt l 6 ≡ b → turned_row g (turned_row g l) ≡ l
    by_case true e = (exchanged g l a (grind (arith, nat_tests))).twice
    by_case false e =
        let i : 6 ≤ l = grind (arith, nat_tests) in
        let same : turned_row g l ≡ l = row_later g l i in
        ap (λ z. turned_row g z) same ∙ same

-- ---- products
pub along_turned : (g : ℕ) (c d y z : List ℤ) → g < 3 → ((k : ℕ) → k < 3 → entry d k ≡ entry c (turned g k)) → ((k : ℕ) → k < 3 → entry z k ≡ entry y (turned g k)) → along d z ≡ along c y
along_turned g c d y z a h i =
    along_is d z
    ∙ same_entries _ _ _ _ _ _ (entry z 0) (entry z 1) (entry z 2) (h 0 (lit< tt)) (h 1 (lit< tt)) (h 2 (lit< tt))
    ∙ same_entries_right _ _ _ _ _ _ (entry c (turned g 0)) (entry c (turned g 1)) (entry c (turned g 2)) (i 0 (lit< tt)) (i 1 (lit< tt)) (i 2 (lit< tt))
    ∙ by_place g a ∙ sym (along_is c y)
  where
    by_place : (g : ℕ) → g < 3 → entry c (turned g 0) *ℤ entry y (turned g 0) +ℤ (entry c (turned g 1) *ℤ entry y (turned g 1) +ℤ entry c (turned g 2) *ℤ entry y (turned g 2)) ≡ entry c 0 *ℤ entry y 0 +ℤ (entry c 1 *ℤ entry y 1 +ℤ entry c 2 *ℤ entry y 2)
    by_place zero a = ring ((entry c 0 *ℤ entry y 0) ∷ (entry c 1 *ℤ entry y 1) ∷ (entry c 2 *ℤ entry y 2) ∷ []) (var 2 ⊕ (var 1 ⊕ var 0)) (var 0 ⊕ (var 1 ⊕ var 2)) refl
    by_place (suc zero) a = ring ((entry c 0 *ℤ entry y 0) ∷ (entry c 1 *ℤ entry y 1) ∷ (entry c 2 *ℤ entry y 2) ∷ []) (var 0 ⊕ (var 2 ⊕ var 1)) (var 0 ⊕ (var 1 ⊕ var 2)) refl
    by_place (suc (suc zero)) a = refl
    by_place (suc (suc (suc g))) a = absurd (omega (arith, a))

pub num_back_is : (g : ℕ) (y : List ℤ) (k : ℕ) → k < 3 → entry (num_back g y) k ≡ entry y (turned g k)
num_back_is g y zero h = refl
num_back_is g y (suc zero) h = refl
num_back_is g y (suc (suc zero)) h = refl
num_back_is g y (suc (suc (suc k))) h = absurd (omega (arith, h))

-- ---- items
pub all_back : (g : ℕ) (F G : ℕ × ℤ → Type 0) (items : List (ℕ × ℤ)) → ((item : ℕ × ℤ) → G item → F (turned_item g item)) → All G items → All F (items_back g items)
all_back g F G items imp all = λ i d h.
    let l : i < length items = omega (arith, h, length-map items (turned_item g)) in
    subst F (sym (get_or-map (turned_item g) items i (0, pos 0) d l)) (imp (get_or items i (0, pos 0)) (all i (0, pos 0) l))

few_back : (g m most : ℕ) (items : List (ℕ × ℤ)) → AreFew m most items → AreFew m most (items_back g items)
few_back g m most items f = record {
  few = subst (λ n. n ≤ m) (sym (length-map items (turned_item g))) f.few;
  small = all_back g (λ item. unsigned_abs item.1 ≤ most) (λ item. unsigned_abs item.1 ≤ most) items (λ item h. h) f.small;
}

-- ---- programs
module _ (g : ℕ) (a : g < 3) (P Q : Reduced) (six : 6 ≤ length P.lines) (t : IsTurned g P Q) where
  sum_back : (items : List (ℕ × ℤ)) → All (λ item. item.0 < length Q.lines) items → (k : ℕ) → k < 3 → line_sum P.lines k (items_back g items) ≡ line_sum Q.lines (turned g k) items
  sum_back items rows k h =
      total_by-map (λ (item : ℕ × ℤ). item.1 *ℤ entry (line_at P.lines item.0).c k) (turned_item g) items
      ∙ total_by_same (λ item. item.1 *ℤ entry (line_at P.lines (turned_row g item.0)).c k) (λ item. item.1 *ℤ entry (line_at Q.lines item.0).c (turned g k)) items
      (λ i d l. ap (λ z. (get_or items i d).1 *ℤ z)
      (let e = (t.each (get_or items i d).0 (omega (arith, rows i d l, t.count))).entries (turned g k) (turned_inside g k a h) in
      sym (e ∙ ap (λ j. entry (line_at P.lines (turned_row g (get_or items i d).0)).c j) (turned_twice g k a h))))

  sides_back : (items : List (ℕ × ℤ)) → All (λ item. item.0 < length Q.lines) items → line_sides P.lines (items_back g items) ≡ line_sides Q.lines items
  sides_back items rows =
      total_by-map (λ (item : ℕ × ℤ). item.1 *ℤ (line_at P.lines item.0).h) (turned_item g) items
      ∙ total_by_same (λ item. item.1 *ℤ (line_at P.lines (turned_row g item.0)).h) (λ item. item.1 *ℤ (line_at Q.lines item.0).h) items
      (λ i d l. ap (λ z. (get_or items i d).1 *ℤ z) (sym (t.each (get_or items i d).0 (omega (arith, rows i d l, t.count))).side))

  rows_back : (items : List (ℕ × ℤ)) → All (λ item. item.0 < length Q.lines) items → All (λ item. item.0 < length P.lines) (items_back g items)
  rows_back items rows = all_back g (λ item. item.0 < length P.lines) (λ item. item.0 < length Q.lines) items (λ item h. row_inside g item.0 (length P.lines) a six (omega (arith, h, t.count))) rows

  -- a row of the program, by its place in the other
  line_back : (l : ℕ) → l < length P.lines → IsTurnedLine g (line_at P.lines l) (line_at Q.lines (turned_row g l))
  line_back l h = subst (λ j. IsTurnedLine g (line_at P.lines j) (line_at Q.lines (turned_row g l))) (row_twice g l a) (t.each (turned_row g l) (row_inside g l (length P.lines) a six h))

  along_back : (c d num : List ℤ) → ((k : ℕ) → k < 3 → entry d k ≡ entry c (turned g k)) → along c (num_back g num) ≡ along d num
  along_back c d num h = sym (along_turned g c d (num_back g num) num a h (λ k l. sym (num_back_is g num (turned g k) (turned_inside g k a l) ∙ ap (λ j. entry num j) (turned_twice g k a l))))

  pub outcome_back_is : (o v : List ℤ) (x : Outcome) → ((k : ℕ) → k < 3 → entry v k ≡ entry o (turned g k)) → IsOutcome all_seen Q v x → IsOutcome all_seen P o (outcome_back g x)
  outcome_back_is o v (Best b) from h = record {
    met = record {
      positive = h.met.positive;
      each = λ l w e.
          let x = line_at P.lines l in
          let y = line_at Q.lines (turned_row g l) in
          let same = line_back l w in
          subst (λ z. z ≤ℤ (x.h *ℤ b.den)) (sym (along_back x.c y.c b.num same.entries))
          (subst (λ z. along y.c b.num ≤ℤ (z *ℤ b.den)) same.side (h.met.each (turned_row g l) (omega (arith, row_inside g l (length P.lines) a six w, t.count)) refl));
    };
    dual = record {
      rows = rows_back b.items h.dual.rows;
      seen_rows = λ i d l. refl;
      not_negative = all_back g (λ item. pos 0 ≤ℤ item.1) (λ item. pos 0 ≤ℤ item.1) b.items (λ item m. m) h.dual.not_negative;
      entries = λ k l. sum_back b.items h.dual.rows k l ∙ h.dual.entries (turned g k) (turned_inside g k a l)
          ∙ ap (λ z. b.den *ℤ z) (from (turned g k) (turned_inside g k a l) ∙ ap (λ j. entry o j) (turned_twice g k a l));
      sides = subst (λ z. z ≤ℤ along o (num_back g b.num)) (sym (sides_back b.items h.dual.rows)) (subst (λ z. line_sides Q.lines b.items ≤ℤ z) (sym (along_back o v b.num from)) h.dual.sides);
    };
    num = subst (λ n. AreAtMost (num_most n) (num_back g b.num)) t.levels (record {
      first = at_place (num_most (level Q.live)) (turned g 0) b.num (turned_inside g 0 a (lit< tt)) h.num;
      second = at_place (num_most (level Q.live)) (turned g 1) b.num (turned_inside g 1 a (lit< tt)) h.num;
      third = at_place (num_most (level Q.live)) (turned g 2) b.num (turned_inside g 2 a (lit< tt)) h.num;
    });
    den = subst (λ n. unsigned_abs b.den ≤ den_most n) t.levels h.den;
    few = subst (λ n. AreFew n (dual_most n) (items_back g b.items)) t.levels (few_back g (level Q.live) (dual_most (level Q.live)) b.items h.few);
  }
  outcome_back_is o v (Infeasible items) from h = record {
    none = record {
      rows = rows_back items h.none.rows;
      seen_rows = λ i d l. refl;
      not_negative = all_back g (λ item. pos 0 ≤ℤ item.1) (λ item. pos 0 ≤ℤ item.1) items (λ item m. m) h.none.not_negative;
      entries = λ k l. sum_back items h.none.rows k l ∙ h.none.entries (turned g k) (turned_inside g k a l);
      sides = subst (λ z. z ≤ℤ negsuc 0) (sym (sides_back items h.none.rows)) h.none.sides;
    };
    few = subst (λ n. AreFew (n + 1) (farkas_most n) (items_back g items)) t.levels (few_back g (level Q.live + 1) (farkas_most (level Q.live)) items h.few);
  }
