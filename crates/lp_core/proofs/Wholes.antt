-- A program before any elimination, and what is found out about it.
use Rattle.std.proofs.Common.{◌≡◌, ℕ, zero, suc, ◌+◌, ◌*◌, ◌<◌, ◌≤◌, ◌^◌, List, [], length, get_or, refl, sym, ap, subst, ◌∙◌, arith, lit<, lit≤}
use Rattle.std.specs.Prelude.{ℤ, pos, negsuc, ◌*ℤ◌, ◌<ℤ◌, ◌≤ℤ◌, All, true, false, nat_lt, slice_index_or}
use Rattle.std.specs.Int.RustNames.{unsigned_abs}
use Rattle.std.proofs.lemmas.Int.{ints}
use Rattle.std.proofs.lemmas.Bool.Decides.{nat_tests}
use Rattle.std.proofs.lemmas.List.{get_or_default}
use Rattle.exact_algebra.specs.Sums.{dot}
use Rattle.exact_algebra.proofs.Sums.{total_by_same}
use Rattle.lp_cert.specs.declared.rows.Row.{Row}
use Rattle.lp_cert.specs.Program.{Program, IsProgram, IsRow, Meets, entry, entry_limit, row_at}
use Rattle.lp_cert.specs.Certificate.{ProvesBound, ProvesEmpty, entry_sum, side_sum}
use Rattle.lp_core.specs.Reduced.{Reduced}
use Rattle.lp_core.specs.Lines.{along, line_at, line_sum, line_sides, all_seen, IsMet, IsDual}
use Rattle.lp_core.specs.Sizes.{one_if, level, entry_most, side_most, objective_most, AreAtMost, IsSmallLine}
use Rattle.lp_core.specs.Search.{IsReduced}
use Rattle.lp_core.specs.Whole.{IsWhole}
use Rattle.lp_core.proofs.Along.{along_dot}
use Rattle.lp_core.proofs.Levels.{level_is}

pub below_true : (k d : ℕ) → k < d → nat_lt k d ≡ true
below_true k d h = grind (arith, nat_tests)

pub below_false : (k d : ℕ) → d ≤ k → nat_lt k d ≡ false
below_false k d h = grind (arith, nat_tests)

pub from_true : (k d : ℕ) → nat_lt k d ≡ true → k < d
from_true k d h = grind (arith, nat_tests)

from_false : (k d : ℕ) → nat_lt k d ≡ false → d ≤ k
from_false k d h = grind (arith, nat_tests)

-- the number of live variables is the dimension
pub whole_level : (p : Program) (q : Reduced) → IsProgram p → IsWhole p q → level q.live ≡ p.dimension
whole_level p q h w = level_is q.live ∙ count p.dimension h.some h.few (w.live 0 (lit< tt)) (w.live 1 (lit< tt)) (w.live 2 (lit< tt))
  where
    add : (a b d m : ℕ) → 0 + a + b + d ≡ m → (x y z : ℕ) → x ≡ a → y ≡ b → z ≡ d → 0 + x + y + z ≡ m
    add a b d m e x y z f g h = omega (arith, e, f, g, h)

    count : (d : ℕ) → 1 ≤ d → d ≤ 3 → slice_index_or q.live 0 false ≡ nat_lt 0 d → slice_index_or q.live 1 false ≡ nat_lt 1 d → slice_index_or q.live 2 false ≡ nat_lt 2 d
        → 0 + one_if (slice_index_or q.live 0 false) + one_if (slice_index_or q.live 1 false) + one_if (slice_index_or q.live 2 false) ≡ d
    count zero a b x y z = absurd (omega (arith, a))
    count (suc zero) a b x y z = add 1 0 0 1 refl _ _ _ (ap one_if x) (ap one_if y) (ap one_if z)
    count (suc (suc zero)) a b x y z = add 1 1 0 2 refl _ _ _ (ap one_if x) (ap one_if y) (ap one_if z)
    count (suc (suc (suc zero))) a b x y z = add 1 1 1 3 refl _ _ _ (ap one_if x) (ap one_if y) (ap one_if z)
    count (suc (suc (suc (suc d)))) a b x y z = absurd (omega (arith, b))

limit_most : (d : ℕ) → 1 ≤ d → d ≤ 3 → entry_limit d ≤ entry_most d
limit_most zero a b = absurd (omega (arith, a))
limit_most (suc zero) a b = lit≤ tt
limit_most (suc (suc zero)) a b = lit≤ tt
limit_most (suc (suc (suc zero))) a b = lit≤ tt
limit_most (suc (suc (suc (suc d)))) a b = absurd (omega (arith, b))

side_limit : (d : ℕ) → 2 ^ 64 ≤ side_most d
side_limit zero = lit≤ tt
side_limit (suc zero) = lit≤ tt
side_limit (suc (suc zero)) = lit≤ tt
side_limit (suc (suc (suc d))) = lit≤ tt

objective_limit : (d : ℕ) → 4096 ≤ objective_most d
objective_limit zero = lit≤ tt
objective_limit (suc zero) = lit≤ tt
objective_limit (suc (suc zero)) = lit≤ tt
objective_limit (suc (suc (suc d))) = lit≤ tt

no_row : Row
no_row = record { c = []; h = pos 0 }

pub row_right : (p : Program) (l : ℕ) → IsProgram p → l < length p.rows → IsRow p.dimension (row_at p l)
row_right p l h w = h.each l (record { c = []; h = pos 0 }) w

reduced_by : (p : Program) (q : Reduced) (o : List ℤ) (most : ℕ) → most ≤ objective_most p.dimension → IsProgram p → IsWhole p q → length o ≡ 3 → All (λ x. unsigned_abs x ≤ most) o → ((k : ℕ) → p.dimension ≤ k → entry o k ≡ pos 0) → IsReduced q o
reduced_by p q o most limit h w three small zeros =
    let d = whole_level p q h w in
    record {
      three = w.three;
      few = omega (arith, w.count, h.room);
      lines = λ l lt. subst (λ n. IsSmallLine (entry_most n) (side_most n) (line_at q.lines l)) (sym d) (line l (omega (arith, lt, w.count)));
      objective = subst (λ n. AreAtMost (objective_most n) o) (sym d) (record {
        first = omega (arith, small 0 (pos 0) (omega (arith, three)), limit);
        second = omega (arith, small 1 (pos 0) (omega (arith, three)), limit);
        third = omega (arith, small 2 (pos 0) (omega (arith, three)), limit);
      });
      dead = λ k k3 e.
          let past : p.dimension ≤ k = from_false k p.dimension (sym (w.live k k3) ∙ e) in
          (zeros k past, λ l lt. let l2 : l < length p.rows = omega (arith, lt, w.count) in ap (λ c. entry c k) (w.entries l l2) ∙ (row_right p l h l2).zeros k past);
      boxes = λ k k3 e.
          let inside : k < p.dimension = from_true k p.dimension (sym (w.live k k3) ∙ e) in
          let lower : 2 * k + 1 < length p.rows = omega (arith, inside, h.has_box) in
          record {
            within = omega (arith, lower, w.count);
            upper = w.entries (2 * k) (omega (arith, lower)) ∙ (h.box k inside).0;
            lower = w.entries (2 * k + 1) lower ∙ (h.box k inside).1;
          };
    }
  where
    line : (l : ℕ) → l < length p.rows → IsSmallLine (entry_most p.dimension) (side_most p.dimension) (line_at q.lines l)
    line l lt =
        let r = row_right p l h lt in
        let part : (k : ℕ) → k < 3 → unsigned_abs (entry (line_at q.lines l).c k) ≤ entry_most p.dimension = λ k k3.
        subst (λ c. unsigned_abs (entry c k) ≤ entry_most p.dimension) (sym (w.entries l lt)) (omega (arith, r.entries k (pos 0) (omega (arith, k3, r.three)), limit_most p.dimension h.some h.few)) in
        record {
          entries = record { first = part 0 (lit< tt); second = part 1 (lit< tt); third = part 2 (lit< tt) };
          side = subst (λ z. unsigned_abs z ≤ side_most p.dimension) (sym (w.sides l lt)) (omega (arith, r.side, side_limit p.dimension));
        }

pub whole_is_reduced : (p : Program) (q : Reduced) (o : List ℤ) → IsProgram p → IsWhole p q → length o ≡ 3 → All (λ x. unsigned_abs x ≤ 4096) o → ((k : ℕ) → p.dimension ≤ k → entry o k ≡ pos 0) → IsReduced q o
whole_is_reduced p q o h w three small zeros = reduced_by p q o 4096 (objective_limit p.dimension) h w three small zeros

-- in two variables the objective may be that of a program of three, without one
pub planar_is_reduced : (p : Program) (q : Reduced) (o : List ℤ) → IsProgram p → IsWhole p q → p.dimension ≡ 2 → length o ≡ 3 → All (λ x. unsigned_abs x ≤ 8192) o → ((k : ℕ) → p.dimension ≤ k → entry o k ≡ pos 0) → IsReduced q o
planar_is_reduced p q o h w two three small zeros = reduced_by p q o 8192 (subst (λ d. 8192 ≤ objective_most d) (sym two) (lit≤ tt)) h w three small zeros

-- ---- the way out
module _ (p : Program) (q : Reduced) (h : IsProgram p) (w : IsWhole p q) where
  pub whole_meets : (num : List ℤ) (den : ℤ) → IsMet all_seen q.lines num den → Meets p (record { num = num; den = den })
  whole_meets num den m = record {
    positive = m.positive;
    each = λ l d lt.
        let r = row_at p l in
        let same : r ≡ get_or p.rows l d = get_or_default p.rows l (record { c = []; h = pos 0 }) d lt in
        let met : along r.c num ≤ℤ (r.h *ℤ den) = subst (λ c. along c num ≤ℤ (r.h *ℤ den)) (w.entries l lt) (subst (λ z. along (line_at q.lines l).c num ≤ℤ (z *ℤ den)) (w.sides l lt) (m.each l (omega (arith, lt, w.count)) refl)) in
        subst (λ (x : Row). dot x.c num ≤ℤ (x.h *ℤ den)) same (subst (λ z. z ≤ℤ (r.h *ℤ den)) (sym (along_dot r.c num (row_right p l h lt).three)) met);
  }

  whole_rows : (items : List (ℕ × ℤ)) → All (λ item. item.0 < length q.lines) items → All (λ item. item.0 < length p.rows) items
  whole_rows items a = λ k d l. omega (arith, a k d l, w.count)

  whole_entries : (items : List (ℕ × ℤ)) (k : ℕ) → All (λ item. item.0 < length p.rows) items → entry_sum p items k ≡ line_sum q.lines k items
  whole_entries items k a =
      total_by_same (λ item. item.1 *ℤ entry (row_at p item.0).c k) (λ item. item.1 *ℤ entry (line_at q.lines item.0).c k) items
      (λ i d l. ap (λ c. (get_or items i d).1 *ℤ entry c k) (sym (w.entries (get_or items i d).0 (a i d l))))

  whole_sides : (items : List (ℕ × ℤ)) → All (λ item. item.0 < length p.rows) items → side_sum p items ≡ line_sides q.lines items
  whole_sides items a =
      total_by_same (λ item. item.1 *ℤ (row_at p item.0).h) (λ item. item.1 *ℤ (line_at q.lines item.0).h) items
      (λ i d l. ap (λ z. (get_or items i d).1 *ℤ z) (sym (w.sides (get_or items i d).0 (a i d l))))

  pub whole_bound : (o : List ℤ) (items : List (ℕ × ℤ)) (side den : ℤ) → pos 0 <ℤ den → IsDual all_seen q.lines o items side den → ProvesBound p o items side den
  whole_bound o items side den positive d =
      let rows = whole_rows items d.rows in
      record {
        positive = positive;
        weights = record { rows = rows; not_negative = d.not_negative };
        entries = λ k l. whole_entries items k rows ∙ d.entries k l;
        side = subst (λ z. z ≤ℤ side) (sym (whole_sides items rows)) d.sides;
      }

  pub whole_none : (items : List (ℕ × ℤ)) → IsDual all_seen q.lines [] items (negsuc 0) (pos 0) → ProvesEmpty p items
  whole_none items d =
      let rows = whole_rows items d.rows in
      record {
        weights = record { rows = rows; not_negative = d.not_negative };
        entries = λ k l. whole_entries items k rows ∙ d.entries k l;
        side = below (side_sum p items) (subst (λ z. z ≤ℤ negsuc 0) (sym (whole_sides items rows)) d.sides);
      }
    where
      below : (a : ℤ) → a ≤ℤ negsuc 0 → a <ℤ pos 0
      below a h = omega (arith, ints)
