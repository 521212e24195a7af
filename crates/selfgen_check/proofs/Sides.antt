-- Both sides of the conditions on a point, as the code forms them and as they are defined.
use Rattle.std.proofs.Common.{◌≡◌, ℕ, ◌-◌, ◌*◌, [], ◌∷◌, refl, ◌∙◌}
use Rattle.std.specs.Prelude.{ℤ, pos, ◌+ℤ◌, ◌*ℤ◌, ◌≤ℤ◌, ◌↔◌}
use Rattle.exact_algebra.specs.Poly.{var, ◌⊗◌}
use Rattle.exact_algebra.proofs.Normal.{ring}

-- the value: n is the part, u the payoff, w the sum over the lottery
pub value_sides : (q p weights scale : ℕ) (n u w x y z : ℤ) → x ≡ pos q *ℤ pos weights *ℤ n → y ≡ pos (q - p) *ℤ pos weights *ℤ (pos scale *ℤ u) → z ≡ pos p *ℤ w →
    (x ≡ y +ℤ z) ↔ (pos (q * weights) *ℤ n ≡ (pos ((q - p) * weights * scale) *ℤ u) +ℤ (pos p *ℤ w))
value_sides q p weights scale n u w x y z ex ey ez =
    let f : y ≡ pos ((q - p) * weights * scale) *ℤ u = ey ∙ ring (pos (q - p) ∷ pos weights ∷ pos scale ∷ u ∷ []) (var 0 ⊗ var 1 ⊗ (var 2 ⊗ var 3)) (var 0 ⊗ var 1 ⊗ var 2 ⊗ var 3) refl in
    rw (ex, f, ez) (λ h. h, λ h. h)

-- a deviation: u is its payoff, h the part of the punishing entry, n the part
pub deterred_sides : (q p scale : ℕ) (n u h x y z : ℤ) → x ≡ pos (q - p) *ℤ (pos scale *ℤ u) → y ≡ pos p *ℤ h → z ≡ pos q *ℤ n →
    ((x +ℤ y) ≤ℤ z) ↔ (((pos ((q - p) * scale) *ℤ u) +ℤ (pos p *ℤ h)) ≤ℤ (pos q *ℤ n))
deterred_sides q p scale n u h x y z ex ey ez =
    let f : x ≡ pos ((q - p) * scale) *ℤ u = ex ∙ ring (pos (q - p) ∷ pos scale ∷ u ∷ []) (var 0 ⊗ (var 1 ⊗ var 2)) (var 0 ⊗ var 1 ⊗ var 2) refl in
    rw (f, ey, ez) (λ k. k, λ k. k)

-- equal factors give equal products
pub share_along : (q r : ℕ) (a b : ℤ) → q ≡ r → a ≡ b → pos q *ℤ a ≡ pos r *ℤ b
share_along q r a b h k = rw (h, k) refl

pub product_along : (q r : ℕ) (a b m n : ℤ) → q ≡ r → a ≡ b → m ≡ n → pos q *ℤ a *ℤ m ≡ pos r *ℤ b *ℤ n
product_along q r a b m n h k l = rw (h, k, l) refl
