-- Weak duality, for points and multipliers of the rows that were seen.
use Rattle.std.proofs.Common.{◌≡◌, ℕ, zero, suc, ◌<◌, List, [], ◌∷◌, length, get_or, refl, sym, ap, subst, ◌∙◌, arith, lit<}
use Rattle.std.specs.Prelude.{ℤ, pos, ◌+ℤ◌, ◌*ℤ◌, ◌<ℤ◌, ◌≤ℤ◌, All, Bool, true}
use Rattle.std.proofs.lemmas.Int.{ints}
use Rattle.exact_algebra.specs.Poly.{var, lit, ◌⊕◌, ◌⊗◌}
use Rattle.exact_algebra.specs.Sums.{total_by}
use Rattle.exact_algebra.proofs.Normal.{ring}
use Rattle.exact_algebra.proofs.Order.{times_at_most, at_most_trans}
use Rattle.exact_algebra.proofs.Sums.{total_by_at_most, total_by-times_right}
use Rattle.lp_cert.specs.Program.{entry}
use Rattle.lp_core.specs.declared.reduced.Line.{Line}
use Rattle.lp_core.specs.Lines.{along, line_at, line_sum, line_sides, IsMet, IsDual}
use Rattle.lp_core.proofs.Along.{along_is}

-- the multiples of the products are the products of the sums
weighed : (lines : List Line) (y : List ℤ) (items : List (ℕ × ℤ))
    → total_by (λ item. item.1 *ℤ along (line_at lines item.0).c y) items
    ≡ line_sum lines 0 items *ℤ entry y 0 +ℤ (line_sum lines 1 items *ℤ entry y 1 +ℤ line_sum lines 2 items *ℤ entry y 2)
weighed lines y [] = ring (entry y 0 ∷ entry y 1 ∷ entry y 2 ∷ []) (lit (pos 0)) (lit (pos 0) ⊗ var 0 ⊕ (lit (pos 0) ⊗ var 1 ⊕ lit (pos 0) ⊗ var 2)) refl
weighed lines y (item ∷ items) =
    let c = (line_at lines item.0).c in
    ap (λ z. item.1 *ℤ along c y +ℤ z) (weighed lines y items)
    ∙ ap (λ z. item.1 *ℤ z +ℤ (line_sum lines 0 items *ℤ entry y 0 +ℤ (line_sum lines 1 items *ℤ entry y 1 +ℤ line_sum lines 2 items *ℤ entry y 2))) (along_is c y)
    ∙ ring (item.1 ∷ entry c 0 ∷ entry c 1 ∷ entry c 2 ∷ entry y 0 ∷ entry y 1 ∷ entry y 2 ∷ line_sum lines 0 items ∷ line_sum lines 1 items ∷ line_sum lines 2 items ∷ [])
    (var 0 ⊗ (var 1 ⊗ var 4 ⊕ (var 2 ⊗ var 5 ⊕ var 3 ⊗ var 6)) ⊕ (var 7 ⊗ var 4 ⊕ (var 8 ⊗ var 5 ⊕ var 9 ⊗ var 6)))
    ((var 0 ⊗ var 1 ⊕ var 7) ⊗ var 4 ⊕ ((var 0 ⊗ var 2 ⊕ var 8) ⊗ var 5 ⊕ (var 0 ⊗ var 3 ⊕ var 9) ⊗ var 6)) refl

abbrev pub sums_of : List Line → List (ℕ × ℤ) → List ℤ
sums_of lines items = line_sum lines 0 items ∷ line_sum lines 1 items ∷ line_sum lines 2 items ∷ []

pub entry_of_sums : (lines : List Line) (items : List (ℕ × ℤ)) (k : ℕ) → k < 3 → entry (sums_of lines items) k ≡ line_sum lines k items
entry_of_sums lines items zero l = refl
entry_of_sums lines items (suc zero) l = refl
entry_of_sums lines items (suc (suc zero)) l = refl
entry_of_sums lines items (suc (suc (suc k))) l = absurd (omega (arith, l))

pub weighed_at : (lines : List Line) (y : List ℤ) (items : List (ℕ × ℤ)) → total_by (λ item. item.1 *ℤ along (line_at lines item.0).c y) items ≡ along (sums_of lines items) y
weighed_at lines y items = weighed lines y items ∙ sym (along_is (sums_of lines items) y)

regroup : (m h d : ℤ) → m *ℤ (h *ℤ d) ≡ (m *ℤ h) *ℤ d
regroup m h d = ring (m ∷ h ∷ d ∷ []) (var 0 ⊗ (var 1 ⊗ var 2)) ((var 0 ⊗ var 1) ⊗ var 2) refl

-- rows that a point meets, with multipliers that aren't negative
pub sums_at : (seen : ℕ → Bool) (lines : List Line) (items : List (ℕ × ℤ)) (num : List ℤ) (den : ℤ) → IsMet seen lines num den
    → All (λ item. item.0 < length lines) items → All (λ item. seen item.0 ≡ true) items → All (λ item. pos 0 ≤ℤ item.1) items
    → total_by (λ item. item.1 *ℤ along (line_at lines item.0).c num) items ≤ℤ (line_sides lines items *ℤ den)
sums_at seen lines items num den m rows seen_rows not_negative =
    let f = λ (item : ℕ × ℤ). item.1 *ℤ along (line_at lines item.0).c num in
    let g = λ (item : ℕ × ℤ). (item.1 *ℤ (line_at lines item.0).h) *ℤ den in
    let h : total_by f items ≤ℤ total_by g items = total_by_at_most f g items (λ k d l.
    let item = get_or items k d in
    subst (λ z. f item ≤ℤ z) (regroup item.1 (line_at lines item.0).h den)
    (times_at_most item.1 (along (line_at lines item.0).c num) ((line_at lines item.0).h *ℤ den) (not_negative k d l) (m.each item.0 (rows k d l) (seen_rows k d l)))) in
    subst (λ z. total_by f items ≤ℤ z) (total_by-times_right den (λ (item : ℕ × ℤ). item.1 *ℤ (line_at lines item.0).h) items) h

pub times_right : (s t d : ℤ) → pos 0 <ℤ d → s ≤ℤ t → (s *ℤ d) ≤ℤ (t *ℤ d)
times_right s t d p h =
    subst (λ z. z ≤ℤ (t *ℤ d)) (swapped d s) (subst (λ z. (d *ℤ s) ≤ℤ z) (swapped d t) (times_at_most d s t (omega (arith, ints)) h))
  where
    swapped : (a b : ℤ) → a *ℤ b ≡ b *ℤ a
    swapped a b = ring (a ∷ b ∷ []) (var 0 ⊗ var 1) (var 1 ⊗ var 0) refl

-- the products of a multiple of a vector
pub along_times : (e o y : List ℤ) (den : ℤ) → ((k : ℕ) → k < 3 → entry e k ≡ den *ℤ entry o k) → along e y ≡ den *ℤ along o y
along_times e o y den h =
    along_is e y
    ∙ ap (λ z. z *ℤ entry y 0 +ℤ (entry e 1 *ℤ entry y 1 +ℤ entry e 2 *ℤ entry y 2)) (h 0 (lit< tt))
    ∙ ap (λ z. (den *ℤ entry o 0) *ℤ entry y 0 +ℤ (z *ℤ entry y 1 +ℤ entry e 2 *ℤ entry y 2)) (h 1 (lit< tt))
    ∙ ap (λ z. (den *ℤ entry o 0) *ℤ entry y 0 +ℤ ((den *ℤ entry o 1) *ℤ entry y 1 +ℤ z *ℤ entry y 2)) (h 2 (lit< tt))
    ∙ ring (den ∷ entry o 0 ∷ entry o 1 ∷ entry o 2 ∷ entry y 0 ∷ entry y 1 ∷ entry y 2 ∷ [])
    ((var 0 ⊗ var 1) ⊗ var 4 ⊕ ((var 0 ⊗ var 2) ⊗ var 5 ⊕ (var 0 ⊗ var 3) ⊗ var 6))
    (var 0 ⊗ (var 1 ⊗ var 4 ⊕ (var 2 ⊗ var 5 ⊕ var 3 ⊗ var 6))) refl
    ∙ ap (λ z. den *ℤ z) (sym (along_is o y))

pub dual_bounds : (seen : ℕ → Bool) (lines : List Line) (o : List ℤ) (items : List (ℕ × ℤ)) (side den : ℤ) (num : List ℤ) (d : ℤ)
    → IsDual seen lines o items side den → IsMet seen lines num d → (den *ℤ along o num) ≤ℤ (side *ℤ d)
dual_bounds seen lines o items side den num d u m =
    let same : total_by (λ item. item.1 *ℤ along (line_at lines item.0).c num) items ≡ den *ℤ along o num =
    weighed_at lines num items ∙ along_times (sums_of lines items) o num den (λ k l. entry_of_sums lines items k l ∙ u.entries k l) in
    at_most_trans _ (line_sides lines items *ℤ d) (side *ℤ d)
    (subst (λ z. z ≤ℤ (line_sides lines items *ℤ d)) same (sums_at seen lines items num d m u.rows u.seen_rows u.not_negative))
    (times_right (line_sides lines items) side d m.positive u.sides)
