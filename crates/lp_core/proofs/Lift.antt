-- From the smaller program back to the larger: the point, its value, and the multipliers.
use Rattle.std.proofs.Common.{◌≡◌, ℕ, ◌<◌, List, [], ◌∷◌, length, refl, sym, ap, subst, ◌∙◌, arith, ◌⊎◌, inl, inr}
use Rattle.std.specs.Prelude.{ℤ, pos, ◌+ℤ◌, ◌-ℤ◌, ◌*ℤ◌, ◌<ℤ◌, ◌≤ℤ◌, All, Bool, true}
use Rattle.std.proofs.lemmas.Int.{ints, by_lt_z}
use Rattle.exact_algebra.specs.Poly.{var, lit, ◌⊕◌, ◌⊖◌, ◌⊗◌}
use Rattle.exact_algebra.specs.Sums.{total_by}
use Rattle.exact_algebra.proofs.Normal.{ring}
use Rattle.exact_algebra.proofs.Order.{at_most_by, times_at_most, times_below, at_most_trans}
use Rattle.lp_cert.specs.Program.{entry}
use Rattle.lp_core.specs.declared.reduced.Line.{Line}
use Rattle.lp_core.specs.declared.pivot.Pivot.{Pivot}
use Rattle.lp_core.specs.Lines.{along, line_at, line_sum, line_sides, IsMet}
use Rattle.lp_core.specs.Elimination.{IsEliminated, IsLifted, IsRest, way, factor_of}
use Rattle.lp_core.proofs.Along.{along_mixed, along_moved}
use Rattle.lp_core.proofs.Duality.{sums_of, entry_of_sums, weighed_at, sums_at, times_right}
use Rattle.lp_core.proofs.Sums.{factor_cases}

pub along_lifted : (p : Pivot) (num : List ℤ) (den : ℤ) (lifted c : List ℤ) → IsLifted p num den lifted → along c lifted ≡ p.size *ℤ along c num +ℤ entry c p.place *ℤ way p num den
along_lifted p num den lifted c m = along_moved c num lifted p.size (way p num den) p.place p.inside m.moved m.others

-- the point lies on the plane
pub on_plane : (p : Pivot) (num : List ℤ) (den : ℤ) (lifted : List ℤ) → IsLifted p num den lifted → along p.line.c lifted ≡ p.line.h *ℤ (p.size *ℤ den)
on_plane p num den lifted m =
    let a = along p.line.c num in
    let c = entry p.line.c p.place in
    along_lifted p num den lifted p.line.c m
    ∙ ring (p.size ∷ a ∷ c ∷ p.sign ∷ p.line.h ∷ den ∷ []) (var 0 ⊗ var 1 ⊕ var 2 ⊗ (var 3 ⊗ (var 4 ⊗ var 5 ⊖ var 1))) (var 0 ⊗ var 1 ⊕ (var 3 ⊗ var 2) ⊗ (var 4 ⊗ var 5 ⊖ var 1)) refl
    ∙ ap (λ z. p.size *ℤ a +ℤ z *ℤ (p.line.h *ℤ den -ℤ a)) p.is_size
    ∙ ring (p.size ∷ a ∷ p.line.h ∷ den ∷ []) (var 0 ⊗ var 1 ⊕ var 0 ⊗ (var 2 ⊗ var 3 ⊖ var 1)) (var 2 ⊗ (var 0 ⊗ var 3)) refl

not_negative_difference : (a b : ℤ) → a ≤ℤ b → pos 0 ≤ℤ (b -ℤ a)
not_negative_difference a b h = omega (arith, ints)

at_least_zero : (a : ℤ) → pos 0 <ℤ a → pos 0 ≤ℤ a
at_least_zero a h = omega (arith, ints)

-- a row that was multiplied by the size
scaled_row : (size x cx sign a h hr den : ℤ) → (size *ℤ x -ℤ (sign *ℤ cx) *ℤ a) ≤ℤ ((size *ℤ h -ℤ (sign *ℤ cx) *ℤ hr) *ℤ den)
    → (size *ℤ x +ℤ cx *ℤ (sign *ℤ (hr *ℤ den -ℤ a))) ≤ℤ (h *ℤ (size *ℤ den))
scaled_row size x cx sign a h hr den m =
    at_most_by (size ∷ x ∷ cx ∷ sign ∷ a ∷ h ∷ hr ∷ den ∷ [])
    (var 0 ⊗ var 1 ⊕ var 2 ⊗ (var 3 ⊗ (var 6 ⊗ var 7 ⊖ var 4)))
    (var 5 ⊗ (var 0 ⊗ var 7))
    ((var 0 ⊗ var 5 ⊖ (var 3 ⊗ var 2) ⊗ var 6) ⊗ var 7 ⊖ (var 0 ⊗ var 1 ⊖ (var 3 ⊗ var 2) ⊗ var 4))
    refl (not_negative_difference _ _ m)

-- a row without the variable
kept_row : (size x sign a h hr den : ℤ) → pos 0 <ℤ size → (pos 1 *ℤ x -ℤ (sign *ℤ pos 0) *ℤ a) ≤ℤ ((pos 1 *ℤ h -ℤ (sign *ℤ pos 0) *ℤ hr) *ℤ den)
    → (size *ℤ x +ℤ pos 0 *ℤ (sign *ℤ (hr *ℤ den -ℤ a))) ≤ℤ (h *ℤ (size *ℤ den))
kept_row size x sign a h hr den s m =
    let e : pos 1 *ℤ x -ℤ (sign *ℤ pos 0) *ℤ a ≡ x = ring (x ∷ sign ∷ a ∷ []) (lit (pos 1) ⊗ var 0 ⊖ (var 1 ⊗ lit (pos 0)) ⊗ var 2) (var 0) refl in
    let f : (pos 1 *ℤ h -ℤ (sign *ℤ pos 0) *ℤ hr) *ℤ den ≡ h *ℤ den = ring (h ∷ sign ∷ hr ∷ den ∷ []) ((lit (pos 1) ⊗ var 0 ⊖ (var 1 ⊗ lit (pos 0)) ⊗ var 2) ⊗ var 3) (var 0 ⊗ var 3) refl in
    let n : x ≤ℤ (h *ℤ den) = subst (λ z. z ≤ℤ (h *ℤ den)) e (subst (λ z. (pos 1 *ℤ x -ℤ (sign *ℤ pos 0) *ℤ a) ≤ℤ z) f m) in
    let t : (size *ℤ x) ≤ℤ (size *ℤ (h *ℤ den)) = times_at_most size x (h *ℤ den) (at_least_zero size s) n in
    at_most_by (size ∷ x ∷ sign ∷ a ∷ h ∷ hr ∷ den ∷ [])
    (var 0 ⊗ var 1 ⊕ lit (pos 0) ⊗ (var 2 ⊗ (var 5 ⊗ var 6 ⊖ var 3)))
    (var 4 ⊗ (var 0 ⊗ var 6))
    (var 0 ⊗ (var 4 ⊗ var 6) ⊖ var 0 ⊗ var 1)
    refl (not_negative_difference _ _ t)

-- a row whose eliminated form a point meets is met by the lifted point
pub row_lifted : (p : Pivot) (num : List ℤ) (den : ℤ) (lifted : List ℤ) (x y : Line) → IsLifted p num den lifted → IsEliminated p x y → along y.c num ≤ℤ (y.h *ℤ den)
    → along x.c lifted ≤ℤ (x.h *ℤ (p.size *ℤ den))
row_lifted p num den lifted x y m e met =
    let a = along p.line.c num in
    let cx = entry x.c p.place in
    let f = factor_of p x in
    let left : along y.c num ≡ f *ℤ along x.c num -ℤ (p.sign *ℤ cx) *ℤ a = along_mixed y.c x.c p.line.c num f (p.sign *ℤ cx) e.entries in
    let is : (f *ℤ along x.c num -ℤ (p.sign *ℤ cx) *ℤ a) ≤ℤ ((f *ℤ x.h -ℤ (p.sign *ℤ cx) *ℤ p.line.h) *ℤ den) =
    subst (λ z. z ≤ℤ ((f *ℤ x.h -ℤ (p.sign *ℤ cx) *ℤ p.line.h) *ℤ den)) left (subst (λ z. along y.c num ≤ℤ (z *ℤ den)) e.side met) in
    subst (λ z. z ≤ℤ (x.h *ℤ (p.size *ℤ den))) (sym (along_lifted p num den lifted x.c m)) (by_factor f cx (factor_cases p x) is)
  where
    by_factor : (f cx : ℤ) → (f ≡ p.size) ⊎ ((f ≡ pos 1) × (cx ≡ pos 0)) → (f *ℤ along x.c num -ℤ (p.sign *ℤ cx) *ℤ along p.line.c num) ≤ℤ ((f *ℤ x.h -ℤ (p.sign *ℤ cx) *ℤ p.line.h) *ℤ den)
        → (p.size *ℤ along x.c num +ℤ cx *ℤ way p num den) ≤ℤ (x.h *ℤ (p.size *ℤ den))
    by_factor f cx (inl k) is = scaled_row p.size (along x.c num) cx p.sign (along p.line.c num) x.h p.line.h den (subst (λ z. (z *ℤ along x.c num -ℤ (p.sign *ℤ cx) *ℤ along p.line.c num) ≤ℤ ((z *ℤ x.h -ℤ (p.sign *ℤ cx) *ℤ p.line.h) *ℤ den)) k is)
    by_factor f cx (inr k) is =
        let one = subst (λ z. (z *ℤ along x.c num -ℤ (p.sign *ℤ cx) *ℤ along p.line.c num) ≤ℤ ((z *ℤ x.h -ℤ (p.sign *ℤ cx) *ℤ p.line.h) *ℤ den)) k.0 is in
        let none = subst (λ z. (pos 1 *ℤ along x.c num -ℤ (p.sign *ℤ z) *ℤ along p.line.c num) ≤ℤ ((pos 1 *ℤ x.h -ℤ (p.sign *ℤ z) *ℤ p.line.h) *ℤ den)) k.1 one in
        subst (λ z. (p.size *ℤ along x.c num +ℤ z *ℤ way p num den) ≤ℤ (x.h *ℤ (p.size *ℤ den))) (sym k.1)
        (kept_row p.size (along x.c num) p.sign (along p.line.c num) x.h p.line.h den p.positive none)

-- the value at the lifted point
pub value_lifted : (p : Pivot) (num : List ℤ) (den : ℤ) (lifted o rest : List ℤ) → IsLifted p num den lifted → IsRest p o rest
    → along o lifted ≡ along rest num +ℤ (p.sign *ℤ (den *ℤ entry o p.place)) *ℤ p.line.h
value_lifted p num den lifted o rest m e =
    along_lifted p num den lifted o m
    ∙ ring (p.size ∷ along o num ∷ entry o p.place ∷ p.sign ∷ p.line.h ∷ den ∷ along p.line.c num ∷ [])
    (var 0 ⊗ var 1 ⊕ var 2 ⊗ (var 3 ⊗ (var 4 ⊗ var 5 ⊖ var 6)))
    ((var 0 ⊗ var 1 ⊖ (var 3 ⊗ var 2) ⊗ var 6) ⊕ (var 3 ⊗ (var 5 ⊗ var 2)) ⊗ var 4) refl
    ∙ ap (λ z. z +ℤ (p.sign *ℤ (den *ℤ entry o p.place)) *ℤ p.line.h) (sym (along_mixed rest o p.line.c num p.size (p.sign *ℤ entry o p.place) e))

contradiction : (x y w z v t : ℤ) → v ≤ℤ (w +ℤ z) → v ≡ x +ℤ y → w ≤ℤ x → z <ℤ y → ⊥
contradiction x y w z v t a e b d = omega (arith, ints)

-- A multiplier that makes up for the rest isn't negative, where the row is broken at a point that meets the rows of the rest, and the value at that
-- point isn't below what the sums allow.
pub multiplier_not_negative : (seen : ℕ → Bool) (lines : List Line) (c o : List ℤ) (h : ℤ) (items : List (ℕ × ℤ)) (num : List ℤ) (den m v d : ℤ)
    → IsMet seen lines num den → All (λ item. item.0 < length lines) items → All (λ item. seen item.0 ≡ true) items → All (λ item. pos 0 ≤ℤ item.1) items
    → ((k : ℕ) → k < 3 → line_sum lines k items ≡ d *ℤ entry o k -ℤ m *ℤ entry c k)
    → line_sides lines items ≤ℤ (v -ℤ m *ℤ h)
    → (h *ℤ den) <ℤ along c num
    → (v *ℤ den) ≤ℤ (d *ℤ along o num)
    → pos 0 ≤ℤ m
multiplier_not_negative seen lines c o h items num den m v d met rows seen_rows not_negative entries sides broken best =
    by_lt_z m (pos 0) (λ less. absurd (
    let n = pos 0 -ℤ m in
    let positive : pos 0 <ℤ n = omega (arith, ints) in
    let sum : total_by (λ item. item.1 *ℤ along (line_at lines item.0).c num) items ≡ d *ℤ along o num -ℤ m *ℤ along c num =
    weighed_at lines num items ∙ along_mixed (sums_of lines items) o c num d m (λ k l. entry_of_sums lines items k l ∙ entries k l) in
    let bound : (d *ℤ along o num -ℤ m *ℤ along c num) ≤ℤ ((v -ℤ m *ℤ h) *ℤ den) =
    at_most_trans _ (line_sides lines items *ℤ den) _ (subst (λ z. z ≤ℤ (line_sides lines items *ℤ den)) sum (sums_at seen lines items num den met rows seen_rows not_negative))
    (times_right (line_sides lines items) (v -ℤ m *ℤ h) den met.positive sides) in
    let right : (v -ℤ m *ℤ h) *ℤ den ≡ v *ℤ den +ℤ n *ℤ (h *ℤ den) =
    ring (v ∷ m ∷ h ∷ den ∷ []) ((var 0 ⊖ var 1 ⊗ var 2) ⊗ var 3) (var 0 ⊗ var 3 ⊕ (lit (pos 0) ⊖ var 1) ⊗ (var 2 ⊗ var 3)) refl in
    let left : d *ℤ along o num -ℤ m *ℤ along c num ≡ d *ℤ along o num +ℤ n *ℤ along c num =
    ring (d ∷ along o num ∷ m ∷ along c num ∷ []) (var 0 ⊗ var 1 ⊖ var 2 ⊗ var 3) (var 0 ⊗ var 1 ⊕ (lit (pos 0) ⊖ var 2) ⊗ var 3) refl in
    let more : (n *ℤ (h *ℤ den)) <ℤ (n *ℤ along c num) = times_below n (h *ℤ den) (along c num) positive broken in
    contradiction (d *ℤ along o num) (n *ℤ along c num) (v *ℤ den) (n *ℤ (h *ℤ den)) (d *ℤ along o num -ℤ m *ℤ along c num) (pos 0) (subst (λ z. (d *ℤ along o num -ℤ m *ℤ along c num) ≤ℤ z) right bound) left best more)) (λ k. k)
