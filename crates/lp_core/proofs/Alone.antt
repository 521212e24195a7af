-- The last variable: the plane of a row is a point.
use Rattle.std.proofs.Common.{◌≡◌, ◌≢◌, ℕ, zero, suc, ◌+◌, ◌<◌, ◌≤◌, List, [], ◌∷◌, length, set, refl, sym, ap, subst, ◌∙◌, arith, ◌⊎◌, inl, inr}
use Rattle.std.specs.Prelude.{ℤ, pos, negsuc, ◌+ℤ◌, ◌-ℤ◌, ◌*ℤ◌, ◌<ℤ◌, ◌≤ℤ◌, All, Bool, true, false, nat_eq, slice_index_or}
use Rattle.std.specs.Int.RustNames.{unsigned_abs}
use Rattle.std.proofs.lemmas.Int.{ints}
use Rattle.std.proofs.lemmas.Bool.Decides.{nat_tests}
use Rattle.std.proofs.lemmas.List.{get_or-set_same, get_or-set_other}
use Rattle.std.proofs.lemmas.List.Elements.{All-cons, All-nil}
use Rattle.exact_algebra.specs.Poly.{var, lit, ◌⊕◌, ◌⊖◌, ◌⊗◌}
use Rattle.exact_algebra.proofs.Normal.{ring}
use Rattle.exact_algebra.proofs.Order.{at_most_from_same}
use Rattle.lp_cert.specs.Program.{entry}
use Rattle.lp_core.specs.declared.reduced.Line.{Line}
use Rattle.lp_core.specs.Reduced.{Reduced}
use Rattle.lp_core.specs.declared.reduced.Optimum.{Optimum}
use Rattle.lp_core.specs.declared.pivot.Pivot.{Pivot}
use Rattle.lp_core.specs.Lines.{along, line_at, is_seen, all_seen}
use Rattle.lp_core.specs.Sizes.{level, entry_most, side_most, objective_most, num_most, dual_most, farkas_most, AreAtMost, IsSmallLine}
use Rattle.lp_core.specs.Search.{IsReduced, IsBest, IsEmpty}
use Rattle.lp_core.proofs.Along.{along_moved}
use Rattle.lp_core.proofs.Boxes.{first_seen, seen_last}
use Rattle.lp_core.proofs.Duality.{dual_bounds}
use Rattle.lp_core.proofs.Fits.{at_place, more, pivot_small, sign_times}
use Rattle.lp_core.proofs.Levels.{level_some, entry_den, entry_farkas, objective_dual, side_num}
use Rattle.lp_core.proofs.Lift.{multiplier_not_negative}
use Rattle.lp_core.proofs.Smaller.{pivot_live}

no_part : (i : ℕ) → entry (pos 0 ∷ pos 0 ∷ pos 0 ∷ []) i ≡ pos 0
no_part zero = refl
no_part (suc zero) = refl
no_part (suc (suc zero)) = refl
no_part (suc (suc (suc i))) = refl

-- the only point of a row
abbrev pub point_of : Pivot → List ℤ
point_of p = set (pos 0 ∷ pos 0 ∷ pos 0 ∷ []) p.place (p.sign *ℤ p.line.h)

pub along_point : (p : Pivot) (c : List ℤ) → along c (point_of p) ≡ entry c p.place *ℤ (p.sign *ℤ p.line.h)
along_point p c =
    let zeros = pos 0 ∷ pos 0 ∷ pos 0 ∷ [] in
    let t = p.sign *ℤ p.line.h in
    along_moved c zeros (point_of p) (pos 0) t p.place p.inside
    (get_or-set_same zeros p.place t (pos 0) p.inside ∙ ring (t ∷ entry zeros p.place ∷ []) (var 0) (lit (pos 0) ⊗ var 1 ⊕ var 0) refl)
    (λ k l n. get_or-set_other zeros p.place k t (pos 0) n ∙ no_part k ∙ ring (entry zeros k ∷ []) (lit (pos 0)) (lit (pos 0) ⊗ var 0) refl)
    ∙ ring (along c zeros ∷ entry c p.place ∷ t ∷ []) (lit (pos 0) ⊗ var 0 ⊕ var 1 ⊗ var 2) (var 1 ⊗ var 2) refl

-- the row holds with equality there
pub on_point : (p : Pivot) → along p.line.c (point_of p) ≡ p.line.h *ℤ p.size
on_point p =
    along_point p p.line.c
    ∙ ring (entry p.line.c p.place ∷ p.sign ∷ p.line.h ∷ []) (var 0 ⊗ (var 1 ⊗ var 2)) (var 2 ⊗ (var 1 ⊗ var 0)) refl
    ∙ ap (λ z. p.line.h *ℤ z) p.is_size

pub point_small : (p : Pivot) (m : ℕ) → unsigned_abs p.line.h ≤ m → AreAtMost m (point_of p)
point_small p m h = record { first = part 0 (nat_eq 0 p.place) refl; second = part 1 (nat_eq 1 p.place) refl; third = part 2 (nat_eq 2 p.place) refl }
  where
    part : (k : ℕ) (b : Bool) → nat_eq k p.place ≡ b → unsigned_abs (entry (point_of p) k) ≤ m
    part k true e =
        let n : k ≡ p.place = grind (arith, nat_tests) in
        let is : entry (point_of p) k ≡ p.sign *ℤ p.line.h = ap (λ i. entry (point_of p) i) n ∙ get_or-set_same (pos 0 ∷ pos 0 ∷ pos 0 ∷ []) p.place (p.sign *ℤ p.line.h) (pos 0) p.inside in
        subst (λ z. unsigned_abs z ≤ m) (sym is) (sign_times p p.line.h m h)
    part k false e =
        let n : k ≢ p.place = grind (arith, nat_tests) in
        subst (λ z. unsigned_abs z ≤ m) (sym (get_or-set_other (pos 0 ∷ pos 0 ∷ pos 0 ∷ []) p.place k (p.sign *ℤ p.line.h) (pos 0) n ∙ no_part k)) (omega arith)

module _ (P : Reduced) (o : List ℤ) (r : ℕ) (p : Pivot) (q : IsReduced P o) (within : r < length P.lines) (line : p.line ≡ line_at P.lines r)
    (alone : (k : ℕ) → k < 3 → k ≢ p.place → slice_index_or P.live k false ≡ false) where
  some : 1 ≤ level P.live
  some = level_some P.live p.place p.inside (pivot_live P o r p q within line)

  own_other : (k : ℕ) → k < 3 → k ≢ p.place → entry p.line.c k ≡ pos 0
  own_other k l n = ap (λ (x : Line). entry x.c k) line ∙ (q.dead k l (alone k l n)).1 r within

  -- a claim on each entry, by the variable's place and the others
  by_place : (F : ℕ → Type 0) → F p.place → ((k : ℕ) → k < 3 → k ≢ p.place → F k) → (k : ℕ) → k < 3 → F k
  by_place F here others k l = by_case (nat_eq k p.place) refl
    where
      by_case : (b : Bool) → nat_eq k p.place ≡ b → F k
      by_case true e = let m : k ≡ p.place = grind (arith, nat_tests) in subst F (sym m) here
      by_case false e = let m : k ≢ p.place = grind (arith, nat_tests) in others k l m

  size_small : unsigned_abs p.size ≤ entry_most (level P.live)
  size_small = pivot_small p (entry_most (level P.live)) (side_most (level P.live)) (subst (λ x. IsSmallLine (entry_most (level P.live)) (side_most (level P.live)) x) (sym line) (q.lines r within))

  side_small : unsigned_abs p.line.h ≤ side_most (level P.live)
  side_small = subst (λ (x : Line). unsigned_abs x.h ≤ side_most (level P.live)) (sym line) (q.lines r within).side

  -- ---- the point is the best
  module _ (old : Optimum) (b : IsBest (is_seen P.live r) P o old) (broken : (p.line.h *ℤ old.den) <ℤ along p.line.c old.num) where
    value_is : along o (point_of p) ≡ (p.sign *ℤ entry o p.place) *ℤ p.line.h
    value_is = along_point p o ∙ ring (entry o p.place ∷ p.sign ∷ p.line.h ∷ []) (var 0 ⊗ (var 1 ⊗ var 2)) ((var 1 ⊗ var 0) ⊗ var 2) refl

    bound_entries : (k : ℕ) → k < 3 → (p.sign *ℤ entry o p.place) *ℤ entry p.line.c k ≡ p.size *ℤ entry o k
    bound_entries = by_place (λ k. (p.sign *ℤ entry o p.place) *ℤ entry p.line.c k ≡ p.size *ℤ entry o k)
        (ring (p.sign ∷ entry o p.place ∷ entry p.line.c p.place ∷ []) ((var 0 ⊗ var 1) ⊗ var 2) ((var 0 ⊗ var 2) ⊗ var 1) refl ∙ ap (λ z. z *ℤ entry o p.place) p.is_size)
        (λ k l n. ap (λ z. (p.sign *ℤ entry o p.place) *ℤ z) (own_other k l n) ∙ ring ((p.sign *ℤ entry o p.place) ∷ p.size ∷ []) (var 0 ⊗ lit (pos 0)) (var 1 ⊗ lit (pos 0)) refl ∙ ap (λ z. p.size *ℤ z) (sym (q.dead k l (alone k l n)).0))

    pub point_best : ((l : ℕ) → l < length P.lines → is_seen P.live r l ≡ true → along (line_at P.lines l).c (point_of p) ≤ℤ ((line_at P.lines l).h *ℤ p.size))
        → IsBest (is_seen P.live (r + 1)) P o (record { num = point_of p; den = p.size; items = (r, p.sign *ℤ entry o p.place) ∷ [] })
    point_best each =
        let lines = P.lines in
        let n = level P.live in
        let m = p.sign *ℤ entry o p.place in
        let v = along o (point_of p) in
        let bound : (old.den *ℤ v) ≤ℤ (along o old.num *ℤ p.size) = dual_bounds (is_seen P.live r) lines o old.items (along o old.num) old.den (point_of p) p.size b.dual (record { positive = p.positive; each = each }) in
        let positive : pos 0 ≤ℤ m = multiplier_not_negative (is_seen P.live r) lines p.line.c o p.line.h [] old.num old.den m v p.size b.met
        (All-nil (λ (item : ℕ × ℤ). item.0 < length lines)) (All-nil (λ (item : ℕ × ℤ). is_seen P.live r item.0 ≡ true)) (All-nil (λ (item : ℕ × ℤ). pos 0 ≤ℤ item.1))
        (λ k l. nothing (m *ℤ entry p.line.c k) (p.size *ℤ entry o k) (bound_entries k l))
        (at_most_from_same (pos 0) (v -ℤ m *ℤ p.line.h) (nothing (m *ℤ p.line.h) v (sym value_is)))
        broken (turned v old.den (along o old.num) p.size bound) in
        let one : (F : ℕ × ℤ → Type 0) → F (r, m) → All F ((r, m) ∷ []) = λ F a. All-cons F (r, m) [] a (All-nil F) in
        let times = sign_times p (entry o p.place) (objective_most n) (at_place (objective_most n) p.place o p.inside q.objective) in
        record {
          met = record { positive = p.positive; each = λ l h e. by_row each l h (seen_last P.live r l e) };
          dual = record {
            rows = one (λ item. item.0 < length lines) within;
            seen_rows = one (λ item. is_seen P.live (r + 1) item.0 ≡ true) (first_seen P.live (r + 1) r (omega arith));
            not_negative = one (λ item. pos 0 ≤ℤ item.1) positive;
            entries = λ k l. ap (λ (x : Line). m *ℤ entry x.c k +ℤ pos 0) (sym line) ∙ plus_nothing (m *ℤ entry p.line.c k) ∙ bound_entries k l;
            sides = at_most_from_same _ v (ap (λ (x : Line). m *ℤ x.h +ℤ pos 0) (sym line) ∙ plus_nothing (m *ℤ p.line.h) ∙ sym value_is);
          };
          num = more (side_most n) (num_most n) (point_of p) (side_num n) (point_small p (side_most n) side_small);
          den = omega (arith, size_small, entry_den n some);
          few = record { few = some; small = one (λ item. unsigned_abs item.1 ≤ dual_most n) (omega (arith, times, objective_dual n some)) };
        }
      where
        nothing : (a b : ℤ) → a ≡ b → pos 0 ≡ b -ℤ a
        nothing a b e = omega (arith, ints)

        plus_nothing : (a : ℤ) → a +ℤ pos 0 ≡ a
        plus_nothing a = ring (a ∷ []) (var 0 ⊕ lit (pos 0)) (var 0) refl

        turned : (v d u e : ℤ) → (d *ℤ v) ≤ℤ (u *ℤ e) → (v *ℤ d) ≤ℤ (e *ℤ u)
        turned v d u e h = subst (λ z. z ≤ℤ (e *ℤ u)) (swapped d v) (subst (λ z. (d *ℤ v) ≤ℤ z) (swapped u e) h)
          where
            swapped : (a b : ℤ) → a *ℤ b ≡ b *ℤ a
            swapped a b = ring (a ∷ b ∷ []) (var 0 ⊗ var 1) (var 1 ⊗ var 0) refl

        by_row : ((l : ℕ) → l < length P.lines → is_seen P.live r l ≡ true → along (line_at P.lines l).c (point_of p) ≤ℤ ((line_at P.lines l).h *ℤ p.size))
            → (l : ℕ) → l < length P.lines → (is_seen P.live r l ≡ true) ⊎ (l ≡ r) → along (line_at P.lines l).c (point_of p) ≤ℤ ((line_at P.lines l).h *ℤ p.size)
        by_row each l h (inl e) = each l h e
        by_row each l h (inr e) =
            subst (λ j. along (line_at P.lines j).c (point_of p) ≤ℤ ((line_at P.lines j).h *ℤ p.size)) (sym e)
            (subst (λ (x : Line). along x.c (point_of p) ≤ℤ (x.h *ℤ p.size)) line (at_most_from_same _ _ (on_point p)))

    -- ---- a row that the point breaks
    pub crossing_empty : (l : ℕ) → l < length P.lines → is_seen P.live r l ≡ true → ((line_at P.lines l).h *ℤ p.size) <ℤ along (line_at P.lines l).c (point_of p)
        → IsEmpty P ((l, p.size) ∷ (r, pos 0 -ℤ p.sign *ℤ entry (line_at P.lines l).c p.place) ∷ [])
    crossing_empty l inside seen misses =
        let lines = P.lines in
        let n = level P.live in
        let x = line_at lines l in
        let m = pos 0 -ℤ p.sign *ℤ entry x.c p.place in
        let row : (k : ℕ) → k < 3 → p.size *ℤ entry x.c k +ℤ m *ℤ entry p.line.c k ≡ pos 0 =
        by_place (λ k. p.size *ℤ entry x.c k +ℤ m *ℤ entry p.line.c k ≡ pos 0)
        (ap (λ z. z *ℤ entry x.c p.place +ℤ m *ℤ entry p.line.c p.place) (sym p.is_size)
        ∙ ring (p.sign ∷ entry p.line.c p.place ∷ entry x.c p.place ∷ []) ((var 0 ⊗ var 1) ⊗ var 2 ⊕ (lit (pos 0) ⊖ var 0 ⊗ var 2) ⊗ var 1) (lit (pos 0)) refl)
        (λ k k3 d. ap (λ z. p.size *ℤ z +ℤ m *ℤ entry p.line.c k) ((q.dead k k3 (alone k k3 d)).1 l inside) ∙ ap (λ z. p.size *ℤ pos 0 +ℤ m *ℤ z) (own_other k k3 d)
        ∙ ring (p.size ∷ m ∷ []) (var 0 ⊗ lit (pos 0) ⊕ var 1 ⊗ lit (pos 0)) (lit (pos 0)) refl) in
        let less : (x.h *ℤ p.size) <ℤ (entry x.c p.place *ℤ (p.sign *ℤ p.line.h)) = subst (λ z. (x.h *ℤ p.size) <ℤ z) (along_point p x.c) misses in
        let side : (p.size *ℤ x.h +ℤ m *ℤ p.line.h) ≤ℤ negsuc 0 = below (x.h *ℤ p.size) (entry x.c p.place *ℤ (p.sign *ℤ p.line.h)) (p.size *ℤ x.h +ℤ m *ℤ p.line.h) less
        (ring (p.size ∷ x.h ∷ p.sign ∷ entry x.c p.place ∷ p.line.h ∷ []) (var 0 ⊗ var 1 ⊕ (lit (pos 0) ⊖ var 2 ⊗ var 3) ⊗ var 4) (var 1 ⊗ var 0 ⊖ var 3 ⊗ (var 2 ⊗ var 4)) refl) in
        let first : (F : ℕ × ℤ → Type 0) → F (l, p.size) → All F ((l, p.size) ∷ []) = λ F a. All-cons F (l, p.size) [] a (All-nil F) in
        let both : (F : ℕ × ℤ → Type 0) → F (l, p.size) → F (r, m) → All F ((l, p.size) ∷ (r, m) ∷ []) = λ F a d. All-cons F (l, p.size) ((r, m) ∷ []) a (All-cons F (r, m) [] d (All-nil F)) in
        let size : pos 0 ≤ℤ p.size = at_least p.size p.positive in
        let positive : pos 0 ≤ℤ m = multiplier_not_negative (is_seen P.live r) lines p.line.c [] p.line.h ((l, p.size) ∷ []) old.num old.den m (negsuc 0) (pos 0) b.met
        (first (λ item. item.0 < length lines) inside) (first (λ item. is_seen P.live r item.0 ≡ true) seen) (first (λ item. pos 0 ≤ℤ item.1) size)
        (λ k k3. moved (p.size *ℤ entry x.c k) (m *ℤ entry p.line.c k) (row k k3))
        (moved_side (p.size *ℤ x.h) (m *ℤ p.line.h) side)
        broken (negative old.den (along [] old.num) b.met.positive) in
        let other = sign_times p (entry x.c p.place) (entry_most n) (at_place (entry_most n) p.place x.c p.inside (q.lines l inside).entries) in
        record {
          none = record {
            rows = both (λ item. item.0 < length lines) inside within;
            seen_rows = both (λ item. all_seen item.0 ≡ true) refl refl;
            not_negative = both (λ item. pos 0 ≤ℤ item.1) size positive;
            entries = λ k k3. ap (λ (y : Line). p.size *ℤ entry x.c k +ℤ (m *ℤ entry y.c k +ℤ pos 0)) (sym line) ∙ ring ((p.size *ℤ entry x.c k) ∷ (m *ℤ entry p.line.c k) ∷ []) (var 0 ⊕ (var 1 ⊕ lit (pos 0))) (var 0 ⊕ var 1) refl ∙ row k k3;
            sides = subst (λ z. z ≤ℤ negsuc 0) (ring ((p.size *ℤ x.h) ∷ (m *ℤ p.line.h) ∷ []) (var 0 ⊕ var 1) (var 0 ⊕ (var 1 ⊕ lit (pos 0))) refl ∙ ap (λ (y : Line). p.size *ℤ x.h +ℤ (m *ℤ y.h +ℤ pos 0)) line) side;
          };
          few = record { few = omega (arith, some); small = both (λ item. unsigned_abs item.1 ≤ farkas_most n) (omega (arith, size_small, entry_farkas n some)) (opposite (p.sign *ℤ entry x.c p.place) (entry_most n) (farkas_most n) other (entry_farkas n some)) };
        }
      where
        below : (a d z : ℤ) → a <ℤ d → z ≡ a -ℤ d → z ≤ℤ negsuc 0
        below a d z h e = omega (arith, ints)

        at_least : (a : ℤ) → pos 0 <ℤ a → pos 0 ≤ℤ a
        at_least a h = omega (arith, ints)

        moved : (a d : ℤ) → a +ℤ d ≡ pos 0 → a +ℤ pos 0 ≡ pos 0 -ℤ d
        moved a d e = omega (arith, ints)

        moved_side : (a d : ℤ) → (a +ℤ d) ≤ℤ negsuc 0 → (a +ℤ pos 0) ≤ℤ (negsuc 0 -ℤ d)
        moved_side a d h = omega (arith, ints)

        negative : (d a : ℤ) → pos 0 <ℤ d → (negsuc 0 *ℤ d) ≤ℤ (pos 0 *ℤ a)
        negative d a h =
            let left : negsuc 0 *ℤ d ≡ pos 0 -ℤ d = ring (d ∷ []) (lit (negsuc 0) ⊗ var 0) (lit (pos 0) ⊖ var 0) refl in
            let right : pos 0 *ℤ a ≡ pos 0 = ring (a ∷ []) (lit (pos 0) ⊗ var 0) (lit (pos 0)) refl in
            from d (negsuc 0 *ℤ d) (pos 0 *ℤ a) h left right
          where
            from : (d u v : ℤ) → pos 0 <ℤ d → u ≡ pos 0 -ℤ d → v ≡ pos 0 → u ≤ℤ v
            from d u v h e f = omega (arith, ints)

        opposite : (a : ℤ) (m n : ℕ) → unsigned_abs a ≤ m → m ≤ n → unsigned_abs (pos 0 -ℤ a) ≤ n
        opposite a m n h l = omega (arith, ints)
