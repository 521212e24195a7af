-- Turns between vectors of the plane, and their signs.
use Rattle.std.proofs.Common.{◌≡◌, [], ◌∷◌, refl, sym, ap, subst, ◌∙◌, arith}
use Rattle.std.specs.Prelude.{ℤ, pos, ◌+ℤ◌, ◌-ℤ◌, ◌*ℤ◌, ◌≤ℤ◌, ◌<ℤ◌, neg_ℤ}
use Rattle.std.proofs.lemmas.Int.{ints, by_lt_z}
use Rattle.exact_algebra.specs.Poly.{var, lit, neg, ◌⊕◌, ◌⊖◌, ◌⊗◌}
use Rattle.exact_algebra.proofs.Normal.{ring}
use Rattle.exact_algebra.proofs.Order.{product_at_least_zero, product_above_zero, at_most_from_times, below_from_times, positive_at_least_zero, sum_at_least_zero}

-- ---- identities
pub turn_turn : (rx ry lx ly ax ay px py : ℤ) → (rx *ℤ ly -ℤ ry *ℤ lx) *ℤ (ax *ℤ py -ℤ ay *ℤ px) ≡ (ax *ℤ ly -ℤ ay *ℤ lx) *ℤ (rx *ℤ py -ℤ ry *ℤ px) +ℤ (rx *ℤ ay -ℤ ry *ℤ ax) *ℤ (lx *ℤ py -ℤ ly *ℤ px)
turn_turn rx ry lx ly ax ay px py =
    ring (rx ∷ ry ∷ lx ∷ ly ∷ ax ∷ ay ∷ px ∷ py ∷ [])
    ((var 0 ⊗ var 3 ⊖ var 1 ⊗ var 2) ⊗ (var 4 ⊗ var 7 ⊖ var 5 ⊗ var 6))
    ((var 4 ⊗ var 3 ⊖ var 5 ⊗ var 2) ⊗ (var 0 ⊗ var 7 ⊖ var 1 ⊗ var 6) ⊕ (var 0 ⊗ var 5 ⊖ var 1 ⊗ var 4) ⊗ (var 2 ⊗ var 7 ⊖ var 3 ⊗ var 6))
    refl

pub ahead_turn : (rx ry ax ay px py : ℤ) → (rx *ℤ rx +ℤ ry *ℤ ry) *ℤ (ax *ℤ py -ℤ ay *ℤ px) ≡ (rx *ℤ px +ℤ ry *ℤ py) *ℤ (ax *ℤ ry -ℤ ay *ℤ rx) +ℤ (rx *ℤ py -ℤ ry *ℤ px) *ℤ (ax *ℤ rx +ℤ ay *ℤ ry)
ahead_turn rx ry ax ay px py =
    ring (rx ∷ ry ∷ ax ∷ ay ∷ px ∷ py ∷ [])
    ((var 0 ⊗ var 0 ⊕ var 1 ⊗ var 1) ⊗ (var 2 ⊗ var 5 ⊖ var 3 ⊗ var 4))
    ((var 0 ⊗ var 4 ⊕ var 1 ⊗ var 5) ⊗ (var 2 ⊗ var 1 ⊖ var 3 ⊗ var 0) ⊕ (var 0 ⊗ var 5 ⊖ var 1 ⊗ var 4) ⊗ (var 2 ⊗ var 0 ⊕ var 3 ⊗ var 1))
    refl

pub turn_back : (ax ay bx by : ℤ) → bx *ℤ ay -ℤ by *ℤ ax ≡ neg_ℤ (ax *ℤ by -ℤ ay *ℤ bx)
turn_back ax ay bx by =
    ring (ax ∷ ay ∷ bx ∷ by ∷ []) (var 2 ⊗ var 1 ⊖ var 3 ⊗ var 0) (neg (var 0 ⊗ var 3 ⊖ var 1 ⊗ var 2)) refl

pub turn_self : (ax ay : ℤ) → ax *ℤ ay -ℤ ay *ℤ ax ≡ pos 0
turn_self ax ay = ring (ax ∷ ay ∷ []) (var 0 ⊗ var 1 ⊖ var 1 ⊗ var 0) (lit (pos 0)) refl

-- the three vectors of a balance cancel, here in one part of each
pub wedge_cancels_x : (rx ry lx ly ax ay : ℤ) → (lx *ℤ ay -ℤ ly *ℤ ax) *ℤ rx +ℤ neg_ℤ (rx *ℤ ay -ℤ ry *ℤ ax) *ℤ lx +ℤ (rx *ℤ ly -ℤ ry *ℤ lx) *ℤ ax ≡ pos 0
wedge_cancels_x rx ry lx ly ax ay =
    ring (rx ∷ ry ∷ lx ∷ ly ∷ ax ∷ ay ∷ [])
    ((var 2 ⊗ var 5 ⊖ var 3 ⊗ var 4) ⊗ var 0 ⊕ neg (var 0 ⊗ var 5 ⊖ var 1 ⊗ var 4) ⊗ var 2 ⊕ (var 0 ⊗ var 3 ⊖ var 1 ⊗ var 2) ⊗ var 4)
    (lit (pos 0)) refl

pub wedge_cancels_y : (rx ry lx ly ax ay : ℤ) → (lx *ℤ ay -ℤ ly *ℤ ax) *ℤ ry +ℤ neg_ℤ (rx *ℤ ay -ℤ ry *ℤ ax) *ℤ ly +ℤ (rx *ℤ ly -ℤ ry *ℤ lx) *ℤ ay ≡ pos 0
wedge_cancels_y rx ry lx ly ax ay =
    ring (rx ∷ ry ∷ lx ∷ ly ∷ ax ∷ ay ∷ [])
    ((var 2 ⊗ var 5 ⊖ var 3 ⊗ var 4) ⊗ var 1 ⊕ neg (var 0 ⊗ var 5 ⊖ var 1 ⊗ var 4) ⊗ var 3 ⊕ (var 0 ⊗ var 3 ⊖ var 1 ⊗ var 2) ⊗ var 5)
    (lit (pos 0)) refl

times_nought : (a z : ℤ) → z ≡ pos 0 → a *ℤ z ≡ pos 0
times_nought a z e = ap (λ y. a *ℤ y) e ∙ ring (a ∷ []) (var 0 ⊗ lit (pos 0)) (lit (pos 0)) refl

pub ray_cancels_x : (rx ry ax ay : ℤ) → rx *ℤ ay -ℤ ry *ℤ ax ≡ pos 0 → neg_ℤ (rx *ℤ ax +ℤ ry *ℤ ay) *ℤ rx +ℤ pos 0 *ℤ rx +ℤ (rx *ℤ rx +ℤ ry *ℤ ry) *ℤ ax ≡ pos 0
ray_cancels_x rx ry ax ay straight =
    ring (rx ∷ ry ∷ ax ∷ ay ∷ [])
    (neg (var 0 ⊗ var 2 ⊕ var 1 ⊗ var 3) ⊗ var 0 ⊕ lit (pos 0) ⊗ var 0 ⊕ (var 0 ⊗ var 0 ⊕ var 1 ⊗ var 1) ⊗ var 2)
    (neg (var 1) ⊗ (var 0 ⊗ var 3 ⊖ var 1 ⊗ var 2)) refl
    ∙ times_nought (neg_ℤ ry) (rx *ℤ ay -ℤ ry *ℤ ax) straight

pub ray_cancels_y : (rx ry ax ay : ℤ) → rx *ℤ ay -ℤ ry *ℤ ax ≡ pos 0 → neg_ℤ (rx *ℤ ax +ℤ ry *ℤ ay) *ℤ ry +ℤ pos 0 *ℤ ry +ℤ (rx *ℤ rx +ℤ ry *ℤ ry) *ℤ ay ≡ pos 0
ray_cancels_y rx ry ax ay straight =
    ring (rx ∷ ry ∷ ax ∷ ay ∷ [])
    (neg (var 0 ⊗ var 2 ⊕ var 1 ⊗ var 3) ⊗ var 1 ⊕ lit (pos 0) ⊗ var 1 ⊕ (var 0 ⊗ var 0 ⊕ var 1 ⊗ var 1) ⊗ var 3)
    (var 0 ⊗ (var 0 ⊗ var 3 ⊖ var 1 ⊗ var 2)) refl
    ∙ times_nought rx (rx *ℤ ay -ℤ ry *ℤ ax) straight

-- ---- signs
sum_positive : (a b : ℤ) → pos 0 <ℤ a → pos 0 ≤ℤ b → pos 0 <ℤ (a +ℤ b)
sum_positive a b h k = omega (arith, ints)

factor_not_negative : (d p s : ℤ) → pos 0 <ℤ d → d *ℤ p ≡ s → pos 0 ≤ℤ s → pos 0 ≤ℤ p
factor_not_negative d p s h e k =
    at_most_from_times d (pos 0) p h
    (subst (λ z. z ≤ℤ (d *ℤ p)) (sym (times_nought d (pos 0) refl)) (subst (λ z. pos 0 ≤ℤ z) (sym e) k))

pub factor_positive : (d p s : ℤ) → pos 0 <ℤ d → d *ℤ p ≡ s → pos 0 <ℤ s → pos 0 <ℤ p
factor_positive d p s h e k =
    below_from_times d (pos 0) p (positive_at_least_zero d h)
    (subst (λ z. z <ℤ (d *ℤ p)) (sym (times_nought d (pos 0) refl)) (subst (λ z. pos 0 <ℤ z) (sym e) k))

both_negative : (e m : ℤ) → e <ℤ pos 0 → m ≤ℤ pos 0 → pos 0 ≤ℤ (e *ℤ m)
both_negative e m h k =
    let p : pos 0 ≤ℤ neg_ℤ e = omega (arith, ints) in
    let q : pos 0 ≤ℤ neg_ℤ m = omega (arith, ints) in
    subst (λ z. pos 0 ≤ℤ z) (ring (e ∷ m ∷ []) (neg (var 0) ⊗ neg (var 1)) (var 0 ⊗ var 1) refl)
    (product_at_least_zero (neg_ℤ e) (neg_ℤ m) p q)

above_when_nought : (m r : ℤ) → m <ℤ r → pos 0 ≤ℤ m → pos 0 <ℤ r
above_when_nought m r h k = omega (arith, ints)

below_when_nought : (m p : ℤ) → m ≤ℤ pos 0 → pos 0 <ℤ p → m <ℤ p
below_when_nought m p h k = omega (arith, ints)

below_when_negative : (m p : ℤ) → m <ℤ pos 0 → pos 0 ≤ℤ p → m <ℤ p
below_when_negative m p h k = omega (arith, ints)

-- a vector in the wedge stays there where the wedge becomes wider to the right: d = r to l, c = a to l, e = r to a;
-- r, m and p are the turns to the vector from the right, from the left and from the new arrow
pub wider_right : (d c e r m p : ℤ) → pos 0 <ℤ d → pos 0 <ℤ c → e <ℤ pos 0 → pos 0 ≤ℤ r → m ≤ℤ pos 0 → m <ℤ r → d *ℤ p ≡ c *ℤ r +ℤ e *ℤ m → (pos 0 ≤ℤ p) × (m <ℤ p)
wider_right d c e r m p d_above c_above e_below r_least m_most apart is =
    let second : pos 0 ≤ℤ (e *ℤ m) = both_negative e m e_below m_most in
    let first : pos 0 ≤ℤ (c *ℤ r) = product_at_least_zero c r (positive_at_least_zero c c_above) r_least in
    let not_negative : pos 0 ≤ℤ p = factor_not_negative d p (c *ℤ r +ℤ e *ℤ m) d_above is (sum_at_least_zero (c *ℤ r) (e *ℤ m) first second) in (
      not_negative,
      by_lt_z m (pos 0)
          (λ negative. below_when_negative m p negative not_negative)
          (λ nought. below_when_nought m p m_most
          (factor_positive d p (c *ℤ r +ℤ e *ℤ m) d_above is
          (sum_positive (c *ℤ r) (e *ℤ m) (product_above_zero c r c_above (above_when_nought m r apart nought)) second))),
    )

negated : (d c e r m p : ℤ) → d *ℤ p ≡ c *ℤ r +ℤ e *ℤ m → d *ℤ neg_ℤ p ≡ e *ℤ neg_ℤ m +ℤ c *ℤ neg_ℤ r
negated d c e r m p is =
    ring (d ∷ p ∷ []) (var 0 ⊗ neg (var 1)) (neg (var 0 ⊗ var 1)) refl
    ∙ ap neg_ℤ is
    ∙ ring (c ∷ r ∷ e ∷ m ∷ []) (neg (var 0 ⊗ var 1 ⊕ var 2 ⊗ var 3)) (var 2 ⊗ neg (var 3) ⊕ var 0 ⊗ neg (var 1)) refl

-- the same to the left
pub wider_left : (d c e r m p : ℤ) → pos 0 <ℤ d → c <ℤ pos 0 → pos 0 <ℤ e → pos 0 ≤ℤ r → m ≤ℤ pos 0 → m <ℤ r → d *ℤ p ≡ c *ℤ r +ℤ e *ℤ m → (p ≤ℤ pos 0) × (p <ℤ r)
wider_left d c e r m p d_above c_below e_above r_least m_most apart is =
    let r_neg : neg_ℤ r ≤ℤ pos 0 = omega (arith, ints) in
    let m_neg : pos 0 ≤ℤ neg_ℤ m = omega (arith, ints) in
    let apart_neg : neg_ℤ r <ℤ neg_ℤ m = omega (arith, ints) in
    let turned = wider_right d e c (neg_ℤ m) (neg_ℤ r) (neg_ℤ p) d_above e_above c_below m_neg r_neg apart_neg (negated d c e r m p is) in
    (let h : pos 0 ≤ℤ neg_ℤ p = turned.0 in omega (arith, ints), let h : neg_ℤ r <ℤ neg_ℤ p = turned.1 in omega (arith, ints))

-- a vector on a ray lies strictly to the side of the new arrow on which the ray lies
straight_sum : (f k s g : ℤ) → s ≡ pos 0 → f *ℤ k +ℤ s *ℤ g ≡ f *ℤ k
straight_sum f k s g e =
    ap (λ z. f *ℤ k +ℤ z *ℤ g) e ∙ ring (f ∷ k ∷ g ∷ []) (var 0 ⊗ var 1 ⊕ lit (pos 0) ⊗ var 2) (var 0 ⊗ var 1) refl

pub beside_positive : (d f k s g p : ℤ) → pos 0 <ℤ d → pos 0 <ℤ f → s ≡ pos 0 → d *ℤ p ≡ f *ℤ k +ℤ s *ℤ g → pos 0 <ℤ k → pos 0 <ℤ p
beside_positive d f k s g p d_above f_above straight is k_above =
    factor_positive d p (f *ℤ k) d_above (is ∙ straight_sum f k s g straight) (product_above_zero f k f_above k_above)

pub beside_negative : (d f k s g p : ℤ) → pos 0 <ℤ d → pos 0 <ℤ f → s ≡ pos 0 → d *ℤ p ≡ f *ℤ k +ℤ s *ℤ g → k <ℤ pos 0 → p <ℤ pos 0
beside_negative d f k s g p d_above f_above straight is k_below =
    let h : pos 0 <ℤ neg_ℤ k = omega (arith, ints) in
    let e : d *ℤ neg_ℤ p ≡ f *ℤ neg_ℤ k = ring (d ∷ p ∷ []) (var 0 ⊗ neg (var 1)) (neg (var 0 ⊗ var 1)) refl ∙ ap neg_ℤ (is ∙ straight_sum f k s g straight) ∙ ring (f ∷ k ∷ []) (neg (var 0 ⊗ var 1)) (var 0 ⊗ neg (var 1)) refl in
    let above : pos 0 <ℤ neg_ℤ p = factor_positive d (neg_ℤ p) (f *ℤ neg_ℤ k) d_above e (product_above_zero f (neg_ℤ k) f_above h) in
    omega (arith, ints)
