-- The conditions of self-generation, cleared of fractions, as claims on whole numbers.
use Rattle.std.proofs.Common.{◌≡◌, [], ◌∷◌, refl, ap, sym, ◌∙◌, subst, arith}
use Rattle.std.specs.Prelude.{ℤ, pos, ◌+ℤ◌, ◌-ℤ◌, ◌*ℤ◌, ◌≤ℤ◌, ◌<ℤ◌, neg_ℤ}
use Rattle.std.proofs.lemmas.Int.{ints}
use Rattle.exact_algebra.specs.Poly.{Poly, var, neg, ◌⊕◌, ◌⊖◌, ◌⊗◌}
use Rattle.exact_algebra.proofs.Normal.{ring}
use Rattle.bound_laws.proofs.Order.{at_most_along, below_along, times_nought}
use Rattle.exact_algebra.proofs.Order.{times_at_most, times_below, at_most_by, at_most_from_times, product_at_least_zero}

two_slacks : (a b c d t : ℤ) → a ≤ℤ b → c ≤ℤ d → t ≡ pos 0 → pos 0 ≤ℤ (((b -ℤ a) +ℤ (d -ℤ c)) -ℤ t)
two_slacks a b c d t h k e = omega (arith, ints)

times_same : (k a b : ℤ) → a ≡ b → k *ℤ (a -ℤ b) ≡ pos 0
times_same k a b e =
    let apart : a -ℤ b ≡ pos 0 = omega (arith, ints) in
    ap (λ z. k *ℤ z) apart ∙ times_nought k

-- The incentive of a deviation in the operator. In the order of the arguments: q - p, p, the scale, the sum of the weights, the payoffs
-- of the profile and of the deviation, the weighted sum of the outcomes, the part of the punishment and of the point, base / p, 2^grid,
-- the denominator of the game, the level of the state reached, and q.
incentive_cleared : (qp p m z u u' w h n r f d x q : ℤ) → pos 0 ≤ℤ z → pos 0 ≤ℤ (d *ℤ r *ℤ f)
    → (q *ℤ z) *ℤ n ≡ ((qp *ℤ z *ℤ m) *ℤ u) +ℤ (p *ℤ w)
    → (((qp *ℤ m) *ℤ u') +ℤ (p *ℤ h)) ≤ℤ (q *ℤ n)
    → ((d *ℤ ((p *ℤ r) *ℤ f)) *ℤ neg_ℤ h) ≤ℤ (x *ℤ (m *ℤ d))
    → ((((qp *ℤ r *ℤ f) *ℤ (u' -ℤ u)) -ℤ x) *ℤ ((m *ℤ d) *ℤ z)) ≤ℤ ((d *ℤ ((p *ℤ r) *ℤ f)) *ℤ w)
incentive_cleared qp p m z u u' w h n r f d x q zp kp c1 c2 worst =
    let k : ℤ = d *ℤ r *ℤ f in
    let more : (z *ℤ k *ℤ (((qp *ℤ m) *ℤ u') +ℤ (p *ℤ h))) ≤ℤ (z *ℤ k *ℤ (q *ℤ n)) = times_at_most (z *ℤ k) _ _ (product_at_least_zero z k zp kp) c2 in
    let less : (z *ℤ ((d *ℤ ((p *ℤ r) *ℤ f)) *ℤ neg_ℤ h)) ≤ℤ (z *ℤ (x *ℤ (m *ℤ d))) = times_at_most z _ _ zp worst in
    let nought : k *ℤ (((q *ℤ z) *ℤ n) -ℤ (((qp *ℤ z *ℤ m) *ℤ u) +ℤ (p *ℤ w))) ≡ pos 0 = times_same k _ _ c1 in
    let vk : Poly = var 11 ⊗ var 9 ⊗ var 10 in
    let vunit : Poly = var 11 ⊗ ((var 1 ⊗ var 9) ⊗ var 10) in
    at_most_by (qp ∷ p ∷ m ∷ z ∷ u ∷ u' ∷ w ∷ h ∷ n ∷ r ∷ f ∷ d ∷ x ∷ q ∷ [])
    ((((var 0 ⊗ var 9 ⊗ var 10) ⊗ (var 5 ⊖ var 4)) ⊖ var 12) ⊗ ((var 2 ⊗ var 11) ⊗ var 3))
    (vunit ⊗ var 6)
    (((var 3 ⊗ vk ⊗ (var 13 ⊗ var 8) ⊖ var 3 ⊗ vk ⊗ (((var 0 ⊗ var 2) ⊗ var 5) ⊕ (var 1 ⊗ var 7)))
    ⊕ (var 3 ⊗ (var 12 ⊗ (var 2 ⊗ var 11)) ⊖ var 3 ⊗ (vunit ⊗ neg (var 7))))
    ⊖ vk ⊗ (((var 13 ⊗ var 3) ⊗ var 8) ⊖ (((var 0 ⊗ var 3 ⊗ var 2) ⊗ var 4) ⊕ (var 1 ⊗ var 6))))
    refl
    (two_slacks _ _ _ _ _ more less nought)

-- the same with the unit as it stands
pub incentive_follows : (unit qp p m z u u' w h n r f d x q : ℤ) → unit ≡ d *ℤ ((p *ℤ r) *ℤ f) → pos 0 ≤ℤ z → pos 0 ≤ℤ (d *ℤ r *ℤ f)
    → (q *ℤ z) *ℤ n ≡ ((qp *ℤ z *ℤ m) *ℤ u) +ℤ (p *ℤ w)
    → (((qp *ℤ m) *ℤ u') +ℤ (p *ℤ h)) ≤ℤ (q *ℤ n)
    → (unit *ℤ neg_ℤ h) ≤ℤ (x *ℤ (m *ℤ d))
    → ((((qp *ℤ r *ℤ f) *ℤ (u' -ℤ u)) -ℤ x) *ℤ ((m *ℤ d) *ℤ z)) ≤ℤ (unit *ℤ w)
incentive_follows unit qp p m z u u' w h n r f d x q e zp kp c1 c2 worst =
    subst (λ v. ((((qp *ℤ r *ℤ f) *ℤ (u' -ℤ u)) -ℤ x) *ℤ ((m *ℤ d) *ℤ z)) ≤ℤ (v *ℤ w)) (sym e)
    (incentive_cleared qp p m z u u' w h n r f d x q zp kp c1 c2 (subst (λ v. (v *ℤ neg_ℤ h) ≤ℤ (x *ℤ (m *ℤ d))) e worst))

-- One player's part of the value of the supporting vector: q * (sum of the weights) * unit * (c * part). Here b is the base and f is 2^grid.
pub value_cleared : (c qp p m z u w n b f d q : ℤ)
    → (q *ℤ z) *ℤ n ≡ ((qp *ℤ z *ℤ m) *ℤ u) +ℤ (p *ℤ w)
    → c *ℤ (((qp *ℤ b *ℤ f) *ℤ u *ℤ ((m *ℤ d) *ℤ z)) +ℤ (p *ℤ ((d *ℤ (b *ℤ f)) *ℤ w))) ≡ ((q *ℤ z) *ℤ (d *ℤ (b *ℤ f))) *ℤ (c *ℤ n)
value_cleared c qp p m z u w n b f d q c1 =
    ring (c ∷ qp ∷ p ∷ m ∷ z ∷ u ∷ w ∷ b ∷ f ∷ d ∷ [])
    (var 0 ⊗ (((var 1 ⊗ var 7 ⊗ var 8) ⊗ var 5 ⊗ ((var 3 ⊗ var 9) ⊗ var 4)) ⊕ (var 2 ⊗ ((var 9 ⊗ (var 7 ⊗ var 8)) ⊗ var 6))))
    ((var 0 ⊗ (var 9 ⊗ (var 7 ⊗ var 8))) ⊗ (((var 1 ⊗ var 4 ⊗ var 3) ⊗ var 5) ⊕ (var 2 ⊗ var 6)))
    refl
    ∙ ap (λ v. (c *ℤ (d *ℤ (b *ℤ f))) *ℤ v) (sym c1)
    ∙ ring (c ∷ d ∷ b ∷ f ∷ q ∷ z ∷ n ∷ [])
    ((var 0 ⊗ (var 1 ⊗ (var 2 ⊗ var 3))) ⊗ ((var 4 ⊗ var 5) ⊗ var 6))
    (((var 4 ⊗ var 5) ⊗ (var 1 ⊗ (var 2 ⊗ var 3))) ⊗ (var 0 ⊗ var 6))
    refl

-- a bound of the point, in the unit of values
pub above_cleared : (y d z q unit v : ℤ) → pos 0 <ℤ (q *ℤ z) → (y *ℤ d) <ℤ (unit *ℤ v) → (y *ℤ (q *ℤ (d *ℤ z))) <ℤ (((q *ℤ z) *ℤ unit) *ℤ v)
above_cleared y d z q unit v positive h =
    below_along
    (ring (q ∷ z ∷ y ∷ d ∷ []) ((var 0 ⊗ var 1) ⊗ (var 2 ⊗ var 3)) (var 2 ⊗ (var 0 ⊗ (var 3 ⊗ var 1))) refl)
    (ring (q ∷ z ∷ unit ∷ v ∷ []) ((var 0 ⊗ var 1) ⊗ (var 2 ⊗ var 3)) (((var 0 ⊗ var 1) ⊗ var 2) ⊗ var 3) refl)
    (times_below (q *ℤ z) (y *ℤ d) (unit *ℤ v) positive h)

at_most_by_parts : (x y a b c : ℤ) → x +ℤ y ≡ a +ℤ b → a ≤ℤ c → b ≤ℤ y → x ≤ℤ c
at_most_by_parts x y a b c e h k = omega (arith, ints)

-- The greatest part of all, in the direction of c: its own average is at most it, so the payoff decides.
pub peak_at_most : (c qp p m z u w n q largest : ℤ) → q ≡ qp +ℤ p → pos 0 <ℤ (qp *ℤ z) → pos 0 ≤ℤ (qp *ℤ z *ℤ m) → pos 0 ≤ℤ p
    → (q *ℤ z) *ℤ n ≡ ((qp *ℤ z *ℤ m) *ℤ u) +ℤ (p *ℤ w)
    → (c *ℤ u) ≤ℤ largest → (c *ℤ w) ≤ℤ (z *ℤ (c *ℤ n)) → (c *ℤ n) ≤ℤ (m *ℤ largest)
peak_at_most c qp p m z u w n q largest split positive mp pp c1 payoff average =
    let first : ((qp *ℤ z *ℤ m) *ℤ (c *ℤ u)) ≤ℤ ((qp *ℤ z *ℤ m) *ℤ largest) = times_at_most (qp *ℤ z *ℤ m) _ _ mp payoff in
    let second : (p *ℤ (c *ℤ w)) ≤ℤ (p *ℤ (z *ℤ (c *ℤ n))) = times_at_most p _ _ pp average in
    let parts : ((qp *ℤ z) *ℤ (c *ℤ n)) +ℤ (p *ℤ (z *ℤ (c *ℤ n))) ≡ ((qp *ℤ z *ℤ m) *ℤ (c *ℤ u)) +ℤ (p *ℤ (c *ℤ w)) =
    ring (qp ∷ z ∷ c ∷ n ∷ p ∷ []) ((var 0 ⊗ var 1) ⊗ (var 2 ⊗ var 3) ⊕ var 4 ⊗ (var 1 ⊗ (var 2 ⊗ var 3))) (var 2 ⊗ (((var 0 ⊕ var 4) ⊗ var 1) ⊗ var 3)) refl
    ∙ ap (λ v. c *ℤ ((v *ℤ z) *ℤ n)) (sym split)
    ∙ ap (λ v. c *ℤ v) c1
    ∙ ring (c ∷ qp ∷ z ∷ m ∷ u ∷ p ∷ w ∷ []) (var 0 ⊗ (((var 1 ⊗ var 2 ⊗ var 3) ⊗ var 4) ⊕ (var 5 ⊗ var 6))) (((var 1 ⊗ var 2 ⊗ var 3) ⊗ (var 0 ⊗ var 4)) ⊕ (var 5 ⊗ (var 0 ⊗ var 6))) refl in
    let all : ((qp *ℤ z) *ℤ (c *ℤ n)) ≤ℤ ((qp *ℤ z *ℤ m) *ℤ largest) = at_most_by_parts _ _ _ _ _ parts first second in
    let e : (qp *ℤ z *ℤ m) *ℤ largest ≡ (qp *ℤ z) *ℤ (m *ℤ largest) = ring (qp ∷ z ∷ m ∷ largest ∷ []) ((var 0 ⊗ var 1 ⊗ var 2) ⊗ var 3) ((var 0 ⊗ var 1) ⊗ (var 2 ⊗ var 3)) refl in
    at_most_from_times (qp *ℤ z) (c *ℤ n) (m *ℤ largest) positive (at_most_along refl e all)
