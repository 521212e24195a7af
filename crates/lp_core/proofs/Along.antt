-- Products of vectors of three entries.
use Rattle.std.proofs.Common.{◌≡◌, ℕ, zero, suc, ◌+◌, ◌*◌, ◌<◌, ◌≤◌, ◌≢◌, List, [], ◌∷◌, length, refl, sym, ap, subst, ◌∙◌, arith, lit<}
use Rattle.std.specs.Prelude.{ℤ, pos, ◌+ℤ◌, ◌-ℤ◌, ◌*ℤ◌}
use Rattle.std.specs.Int.RustNames.{unsigned_abs}
use Rattle.exact_algebra.specs.Poly.{var, lit, ◌⊕◌, ◌⊖◌, ◌⊗◌}
use Rattle.exact_algebra.specs.Sums.{dot}
use Rattle.exact_algebra.proofs.Normal.{ring}
use Rattle.exact_algebra.proofs.Order.{abs_product, abs_sum}
use Rattle.lp_cert.specs.Program.{entry, axis}
use Rattle.lp_core.specs.Lines.{along}
use Rattle.lp_core.specs.Sizes.{AreAtMost}

-- the entries as variables
pub along_is : (c y : List ℤ) → along c y ≡ entry c 0 *ℤ entry y 0 +ℤ (entry c 1 *ℤ entry y 1 +ℤ entry c 2 *ℤ entry y 2)
unfolding along
along_is c y = refl

pub same_entries : (a b d a' b' d' x y z : ℤ) → a ≡ a' → b ≡ b' → d ≡ d' → a *ℤ x +ℤ (b *ℤ y +ℤ d *ℤ z) ≡ a' *ℤ x +ℤ (b' *ℤ y +ℤ d' *ℤ z)
same_entries a b d a' b' d' x y z p q r =
    ap (λ t. t *ℤ x +ℤ (b *ℤ y +ℤ d *ℤ z)) p ∙ ap (λ t. a' *ℤ x +ℤ (t *ℤ y +ℤ d *ℤ z)) q ∙ ap (λ t. a' *ℤ x +ℤ (b' *ℤ y +ℤ t *ℤ z)) r

pub same_entries_right : (a b d a' b' d' x y z : ℤ) → a ≡ a' → b ≡ b' → d ≡ d' → x *ℤ a +ℤ (y *ℤ b +ℤ z *ℤ d) ≡ x *ℤ a' +ℤ (y *ℤ b' +ℤ z *ℤ d')
same_entries_right a b d a' b' d' x y z p q r =
    ap (λ t. x *ℤ t +ℤ (y *ℤ b +ℤ z *ℤ d)) p ∙ ap (λ t. x *ℤ a' +ℤ (y *ℤ t +ℤ z *ℤ d)) q ∙ ap (λ t. x *ℤ a' +ℤ (y *ℤ b' +ℤ z *ℤ t)) r

-- a multiple of a vector less a multiple of another
pub along_mixed : (x a b y : List ℤ) (f t : ℤ) → ((k : ℕ) → k < 3 → entry x k ≡ f *ℤ entry a k -ℤ t *ℤ entry b k) → along x y ≡ f *ℤ along a y -ℤ t *ℤ along b y
along_mixed x a b y f t h =
    along_is x y
    ∙ same_entries _ _ _ _ _ _ (entry y 0) (entry y 1) (entry y 2) (h 0 (lit< tt)) (h 1 (lit< tt)) (h 2 (lit< tt))
    ∙ ring (f ∷ t ∷ entry a 0 ∷ entry a 1 ∷ entry a 2 ∷ entry b 0 ∷ entry b 1 ∷ entry b 2 ∷ entry y 0 ∷ entry y 1 ∷ entry y 2 ∷ [])
    ((var 0 ⊗ var 2 ⊖ var 1 ⊗ var 5) ⊗ var 8 ⊕ ((var 0 ⊗ var 3 ⊖ var 1 ⊗ var 6) ⊗ var 9 ⊕ (var 0 ⊗ var 4 ⊖ var 1 ⊗ var 7) ⊗ var 10))
    (var 0 ⊗ (var 2 ⊗ var 8 ⊕ (var 3 ⊗ var 9 ⊕ var 4 ⊗ var 10)) ⊖ var 1 ⊗ (var 5 ⊗ var 8 ⊕ (var 6 ⊗ var 9 ⊕ var 7 ⊗ var 10))) refl
    ∙ ap (λ z. f *ℤ z -ℤ t *ℤ (entry b 0 *ℤ entry y 0 +ℤ (entry b 1 *ℤ entry y 1 +ℤ entry b 2 *ℤ entry y 2))) (sym (along_is a y))
    ∙ ap (λ z. f *ℤ along a y -ℤ t *ℤ z) (sym (along_is b y))

-- a multiple of a point, moved along one axis
pub along_moved : (c y z : List ℤ) (p t : ℤ) (j : ℕ) → j < 3 → entry z j ≡ p *ℤ entry y j +ℤ t → ((k : ℕ) → k < 3 → k ≢ j → entry z k ≡ p *ℤ entry y k) → along c z ≡ p *ℤ along c y +ℤ entry c j *ℤ t
along_moved c y z p t zero l h g =
    along_is c z
    ∙ same_entries_right _ _ _ _ _ _ (entry c 0) (entry c 1) (entry c 2) h (g 1 (lit< tt) (λ e. absurd (omega (arith, e)))) (g 2 (lit< tt) (λ e. absurd (omega (arith, e))))
    ∙ ring (p ∷ t ∷ entry c 0 ∷ entry c 1 ∷ entry c 2 ∷ entry y 0 ∷ entry y 1 ∷ entry y 2 ∷ [])
    (var 2 ⊗ (var 0 ⊗ var 5 ⊕ var 1) ⊕ (var 3 ⊗ (var 0 ⊗ var 6) ⊕ var 4 ⊗ (var 0 ⊗ var 7)))
    (var 0 ⊗ (var 2 ⊗ var 5 ⊕ (var 3 ⊗ var 6 ⊕ var 4 ⊗ var 7)) ⊕ var 2 ⊗ var 1) refl
    ∙ ap (λ w. p *ℤ w +ℤ entry c 0 *ℤ t) (sym (along_is c y))
along_moved c y z p t (suc zero) l h g =
    along_is c z
    ∙ same_entries_right _ _ _ _ _ _ (entry c 0) (entry c 1) (entry c 2) (g 0 (lit< tt) (λ e. absurd (omega (arith, e)))) h (g 2 (lit< tt) (λ e. absurd (omega (arith, e))))
    ∙ ring (p ∷ t ∷ entry c 0 ∷ entry c 1 ∷ entry c 2 ∷ entry y 0 ∷ entry y 1 ∷ entry y 2 ∷ [])
    (var 2 ⊗ (var 0 ⊗ var 5) ⊕ (var 3 ⊗ (var 0 ⊗ var 6 ⊕ var 1) ⊕ var 4 ⊗ (var 0 ⊗ var 7)))
    (var 0 ⊗ (var 2 ⊗ var 5 ⊕ (var 3 ⊗ var 6 ⊕ var 4 ⊗ var 7)) ⊕ var 3 ⊗ var 1) refl
    ∙ ap (λ w. p *ℤ w +ℤ entry c 1 *ℤ t) (sym (along_is c y))
along_moved c y z p t (suc (suc zero)) l h g =
    along_is c z
    ∙ same_entries_right _ _ _ _ _ _ (entry c 0) (entry c 1) (entry c 2) (g 0 (lit< tt) (λ e. absurd (omega (arith, e)))) (g 1 (lit< tt) (λ e. absurd (omega (arith, e)))) h
    ∙ ring (p ∷ t ∷ entry c 0 ∷ entry c 1 ∷ entry c 2 ∷ entry y 0 ∷ entry y 1 ∷ entry y 2 ∷ [])
    (var 2 ⊗ (var 0 ⊗ var 5) ⊕ (var 3 ⊗ (var 0 ⊗ var 6) ⊕ var 4 ⊗ (var 0 ⊗ var 7 ⊕ var 1)))
    (var 0 ⊗ (var 2 ⊗ var 5 ⊕ (var 3 ⊗ var 6 ⊕ var 4 ⊗ var 7)) ⊕ var 4 ⊗ var 1) refl
    ∙ ap (λ w. p *ℤ w +ℤ entry c 2 *ℤ t) (sym (along_is c y))
along_moved c y z p t (suc (suc (suc j))) l h g = absurd (omega (arith, l))

-- one part of a point
pub along_axis : (k : ℕ) (s : ℤ) (y : List ℤ) → k < 3 → along (axis k s) y ≡ s *ℤ entry y k
along_axis zero s y l = along_is (axis 0 s) y ∙ ring (s ∷ entry y 0 ∷ entry y 1 ∷ entry y 2 ∷ []) (var 0 ⊗ var 1 ⊕ (lit (pos 0) ⊗ var 2 ⊕ lit (pos 0) ⊗ var 3)) (var 0 ⊗ var 1) refl
along_axis (suc zero) s y l = along_is (axis 1 s) y ∙ ring (s ∷ entry y 0 ∷ entry y 1 ∷ entry y 2 ∷ []) (lit (pos 0) ⊗ var 1 ⊕ (var 0 ⊗ var 2 ⊕ lit (pos 0) ⊗ var 3)) (var 0 ⊗ var 2) refl
along_axis (suc (suc zero)) s y l = along_is (axis 2 s) y ∙ ring (s ∷ entry y 0 ∷ entry y 1 ∷ entry y 2 ∷ []) (lit (pos 0) ⊗ var 1 ⊕ (lit (pos 0) ⊗ var 2 ⊕ var 0 ⊗ var 3)) (var 0 ⊗ var 3) refl
along_axis (suc (suc (suc k))) s y l = absurd (omega (arith, l))

-- entries that add up
pub along_zero : (c y : List ℤ) → ((k : ℕ) → k < 3 → entry c k ≡ pos 0) → along c y ≡ pos 0
along_zero c y h =
    along_is c y
    ∙ same_entries _ _ _ _ _ _ (entry y 0) (entry y 1) (entry y 2) (h 0 (lit< tt)) (h 1 (lit< tt)) (h 2 (lit< tt))
    ∙ ring (entry y 0 ∷ entry y 1 ∷ entry y 2 ∷ []) (lit (pos 0) ⊗ var 0 ⊕ (lit (pos 0) ⊗ var 1 ⊕ lit (pos 0) ⊗ var 2)) (lit (pos 0)) refl

pub abs_along : (c y : List ℤ) (m n : ℕ) → AreAtMost m c → AreAtMost n y → unsigned_abs (along c y) ≤ 3 * (m * n)
abs_along c y m n h k =
    let a = abs_product (entry c 0) (entry y 0) m n h.first k.first in
    let b = abs_product (entry c 1) (entry y 1) m n h.second k.second in
    let d = abs_product (entry c 2) (entry y 2) m n h.third k.third in
    let e = abs_sum (entry c 1 *ℤ entry y 1) (entry c 2 *ℤ entry y 2) (m * n) (m * n) b d in
    let f = abs_sum (entry c 0 *ℤ entry y 0) (entry c 1 *ℤ entry y 1 +ℤ entry c 2 *ℤ entry y 2) (m * n) (m * n + m * n) a e in
    subst (λ z. unsigned_abs z ≤ 3 * (m * n)) (sym (along_is c y)) (within _ (m * n) f)
  where
    within : (s t : ℕ) → s ≤ t + (t + t) → s ≤ 3 * t
    within s t h = omega (arith, h)

-- the product of lists
pub along_dot : (c y : List ℤ) → length c ≡ 3 → dot c y ≡ along c y
along_dot (a ∷ b ∷ d ∷ []) [] l = ring (a ∷ b ∷ d ∷ []) (lit (pos 0)) (var 0 ⊗ lit (pos 0) ⊕ (var 1 ⊗ lit (pos 0) ⊕ var 2 ⊗ lit (pos 0))) refl ∙ sym (along_is (a ∷ b ∷ d ∷ []) [])
along_dot (a ∷ b ∷ d ∷ []) (x ∷ []) l = ring (a ∷ b ∷ d ∷ x ∷ []) (var 0 ⊗ var 3 ⊕ lit (pos 0)) (var 0 ⊗ var 3 ⊕ (var 1 ⊗ lit (pos 0) ⊕ var 2 ⊗ lit (pos 0))) refl ∙ sym (along_is (a ∷ b ∷ d ∷ []) (x ∷ []))
along_dot (a ∷ b ∷ d ∷ []) (x ∷ y ∷ []) l = ring (a ∷ b ∷ d ∷ x ∷ y ∷ []) (var 0 ⊗ var 3 ⊕ (var 1 ⊗ var 4 ⊕ lit (pos 0))) (var 0 ⊗ var 3 ⊕ (var 1 ⊗ var 4 ⊕ var 2 ⊗ lit (pos 0))) refl ∙ sym (along_is (a ∷ b ∷ d ∷ []) (x ∷ y ∷ []))
along_dot (a ∷ b ∷ d ∷ []) (x ∷ y ∷ z ∷ rest) l =
    ring (a ∷ b ∷ d ∷ x ∷ y ∷ z ∷ []) (var 0 ⊗ var 3 ⊕ (var 1 ⊗ var 4 ⊕ (var 2 ⊗ var 5 ⊕ lit (pos 0)))) (var 0 ⊗ var 3 ⊕ (var 1 ⊗ var 4 ⊕ var 2 ⊗ var 5)) refl ∙ sym (along_is (a ∷ b ∷ d ∷ []) (x ∷ y ∷ z ∷ rest))
along_dot [] y l = absurd (omega (arith, l))
along_dot (a ∷ []) y l = absurd (omega (arith, l))
along_dot (a ∷ b ∷ []) y l = absurd (omega (arith, l))
along_dot (a ∷ b ∷ d ∷ e ∷ c) y l = absurd (omega (arith, l))
