-- Sums over the items of the smaller program, as sums over those of the larger.
use Rattle.std.proofs.Common.{◌≡◌, ℕ, zero, suc, ◌<◌, List, [], ◌∷◌, ◌++◌, length, get_or, map, refl, sym, ap, ◌∙◌, arith, ◌⊎◌, inl, inr}
use Rattle.std.specs.Prelude.{ℤ, pos, negsuc, ◌+ℤ◌, ◌-ℤ◌, ◌*ℤ◌, ◌<ℤ◌, All, Bool, false, cond, nat_eq}
use Rattle.std.proofs.lemmas.Bool.Decides.{nat_tests}
use Rattle.std.proofs.lemmas.Int.{ints}
use Rattle.exact_algebra.specs.Normal.{is_nought}
use Rattle.exact_algebra.specs.Poly.{var, lit, ◌⊕◌, ◌⊖◌, ◌⊗◌}
use Rattle.exact_algebra.specs.Sums.{total_by}
use Rattle.exact_algebra.proofs.Normal.{ring}
use Rattle.exact_algebra.proofs.Sums.{total_by_same, total_by-append}
use Rattle.lp_cert.specs.Program.{entry}
use Rattle.lp_core.specs.declared.reduced.Line.{Line}
use Rattle.lp_core.specs.declared.pivot.Pivot.{Pivot}
use Rattle.lp_core.specs.Lines.{line_at, line_sum, line_sides}
use Rattle.lp_core.specs.Elimination.{AreEliminated, factor_of, source_of, lifted_item, lifted_items, pivot_sum}

pub total_by-map : {A B : Type 0} (f : B → ℤ) (h : A → B) (xs : List A) → total_by f (map h xs) ≡ total_by (λ x. f (h x)) xs
total_by-map f h [] = refl
total_by-map f h (x ∷ xs) = ap (λ z. f (h x) +ℤ z) (total_by-map f h xs)

-- what the multiples of the differences come to
split : {A : Type 0} (m f g e : A → ℤ) (s r : ℤ) (xs : List A)
    → total_by (λ x. m x *ℤ (f x *ℤ g x -ℤ (s *ℤ e x) *ℤ r)) xs ≡ total_by (λ x. (f x *ℤ m x) *ℤ g x) xs -ℤ (s *ℤ total_by (λ x. m x *ℤ e x) xs) *ℤ r
split m f g e s r [] = ring (s ∷ r ∷ []) (lit (pos 0)) (lit (pos 0) ⊖ (var 0 ⊗ lit (pos 0)) ⊗ var 1) refl
split m f g e s r (x ∷ xs) =
    ap (λ z. m x *ℤ (f x *ℤ g x -ℤ (s *ℤ e x) *ℤ r) +ℤ z) (split m f g e s r xs)
    ∙ ring (m x ∷ f x ∷ g x ∷ e x ∷ s ∷ r ∷ total_by (λ x. (f x *ℤ m x) *ℤ g x) xs ∷ total_by (λ x. m x *ℤ e x) xs ∷ [])
    (var 0 ⊗ (var 1 ⊗ var 2 ⊖ (var 4 ⊗ var 3) ⊗ var 5) ⊕ (var 6 ⊖ (var 4 ⊗ var 7) ⊗ var 5))
    (((var 1 ⊗ var 0) ⊗ var 2 ⊕ var 6) ⊖ (var 4 ⊗ (var 0 ⊗ var 3 ⊕ var 7)) ⊗ var 5) refl

module _ (p : Pivot) (lines : List Line) (live : List Bool) (r : ℕ) (inner : List Line) (each : AreEliminated p lines live r inner) where
  pub inner_sum : (items : List (ℕ × ℤ)) → All (λ item. item.0 < length inner) items → (k : ℕ) → k < 3
      → line_sum inner k items ≡ line_sum lines k (lifted_items p lines live r items) -ℤ (p.sign *ℤ pivot_sum p lines live r items) *ℤ entry p.line.c k
  inner_sum items rows k l =
      let row = λ (item : ℕ × ℤ). line_at lines (source_of p live r item.0) in
      total_by_same (λ item. item.1 *ℤ entry (line_at inner item.0).c k) (λ item. item.1 *ℤ (factor_of p (row item) *ℤ entry (row item).c k -ℤ (p.sign *ℤ entry (row item).c p.place) *ℤ entry p.line.c k)) items
      (λ i d h. ap (λ z. (get_or items i d).1 *ℤ z) ((each (get_or items i d).0 (rows i d h)).entries k l))
      ∙ split (λ item. item.1) (λ item. factor_of p (row item)) (λ item. entry (row item).c k) (λ item. entry (row item).c p.place) p.sign (entry p.line.c k) items
      ∙ ap (λ z. z -ℤ (p.sign *ℤ pivot_sum p lines live r items) *ℤ entry p.line.c k) (sym (total_by-map (λ item. item.1 *ℤ entry (line_at lines item.0).c k) (lifted_item p lines live r) items))

  pub inner_sides : (items : List (ℕ × ℤ)) → All (λ item. item.0 < length inner) items
      → line_sides inner items ≡ line_sides lines (lifted_items p lines live r items) -ℤ (p.sign *ℤ pivot_sum p lines live r items) *ℤ p.line.h
  inner_sides items rows =
      let row = λ (item : ℕ × ℤ). line_at lines (source_of p live r item.0) in
      total_by_same (λ item. item.1 *ℤ (line_at inner item.0).h) (λ item. item.1 *ℤ (factor_of p (row item) *ℤ (row item).h -ℤ (p.sign *ℤ entry (row item).c p.place) *ℤ p.line.h)) items
      (λ i d h. ap (λ z. (get_or items i d).1 *ℤ z) (each (get_or items i d).0 (rows i d h)).side)
      ∙ split (λ item. item.1) (λ item. factor_of p (row item)) (λ item. (row item).h) (λ item. entry (row item).c p.place) p.sign p.line.h items
      ∙ ap (λ z. z -ℤ (p.sign *ℤ pivot_sum p lines live r items) *ℤ p.line.h) (sym (total_by-map (λ item. item.1 *ℤ (line_at lines item.0).h) (lifted_item p lines live r) items))

-- one item more
pub line_sum_push : (lines : List Line) (k : ℕ) (items : List (ℕ × ℤ)) (r : ℕ) (m : ℤ) → line_sum lines k (items ++ (r, m) ∷ []) ≡ line_sum lines k items +ℤ m *ℤ entry (line_at lines r).c k
line_sum_push lines k items r m =
    total_by-append (λ (item : ℕ × ℤ). item.1 *ℤ entry (line_at lines item.0).c k) items ((r, m) ∷ [])
    ∙ ring (line_sum lines k items ∷ m ∷ entry (line_at lines r).c k ∷ []) (var 0 ⊕ (var 1 ⊗ var 2 ⊕ lit (pos 0))) (var 0 ⊕ var 1 ⊗ var 2) refl

pub line_sides_push : (lines : List Line) (items : List (ℕ × ℤ)) (r : ℕ) (m : ℤ) → line_sides lines (items ++ (r, m) ∷ []) ≡ line_sides lines items +ℤ m *ℤ (line_at lines r).h
line_sides_push lines items r m =
    total_by-append (λ (item : ℕ × ℤ). item.1 *ℤ (line_at lines item.0).h) items ((r, m) ∷ [])
    ∙ ring (line_sides lines items ∷ m ∷ (line_at lines r).h ∷ []) (var 0 ⊕ (var 1 ⊗ var 2 ⊕ lit (pos 0))) (var 0 ⊕ var 1 ⊗ var 2) refl

-- what a row is multiplied by
by_entry : (z q : ℤ) → (cond (is_nought z) (pos 1) q ≡ q) ⊎ ((cond (is_nought z) (pos 1) q ≡ pos 1) × (z ≡ pos 0))
by_entry (pos zero) q = inr (refl, refl)
by_entry (pos (suc n)) q = let e : nat_eq (suc n) 0 ≡ false = grind (arith, nat_tests) in inl (ap (λ b. cond b (pos 1) q) e)
by_entry (negsuc n) q = inl refl

pub factor_cases : (p : Pivot) (x : Line) → (factor_of p x ≡ p.size) ⊎ ((factor_of p x ≡ pos 1) × (entry x.c p.place ≡ pos 0))
factor_cases p x = by_entry (entry x.c p.place) p.size

pub factor_positive : (p : Pivot) (x : Line) → pos 0 <ℤ factor_of p x
factor_positive p x =
    let h = p.positive in
    elim (factor_cases p x) [ inl e ↦ omega (arith, ints, e, h) | inr e ↦ omega (arith, ints, e.0) ]
