-- Payoffs, gains and sides, as the code forms them in 64 bits.
use Rattle.std.proofs.Common.{◌≡◌, ℕ, ◌+◌, ◌*◌, ◌/◌, ◌^◌, ◌<◌, ◌≤◌, [], ◌∷◌, refl, arith, lit<, ℤ, pos, ◌-ℤ◌, ◌*ℤ◌, to_z, of_z, FitsSigned}
use Rattle.std.specs.Int.{w64}
use Rattle.std.specs.Int.RustNames.{unsigned_abs}
use Rattle.std.proofs.lemmas.Int.{to_z-of_z, unsigned_abs-mul}
use Rattle.std.proofs.Math.Nat.{div-le_self, mul-le-mul}
use lib.Signed.{quot_z}
use Rattle.exact_algebra.specs.Poly.{var, ◌⊖◌, ◌⊗◌}
use Rattle.exact_algebra.proofs.Normal.{ring}
use Rattle.exact_algebra.proofs.Order.{abs_difference, abs_product}
use Rattle.exact_algebra.proofs.Fits.{fits64}

abbrev pub W : ℤ → ℤ
W x = to_z w64 (of_z w64 x)

pub kept : (x : ℤ) (n : ℕ) → unsigned_abs x ≤ n → n < 2 ^ 63 → W x ≡ x
kept x n h l = to_z-of_z w64 x (fits64 x n h l)

-- a smaller factor
pub fewer_times : (m n b : ℕ) (z : ℤ) → m ≤ n → unsigned_abs (pos n *ℤ z) ≤ b → unsigned_abs (pos m *ℤ z) ≤ b
fewer_times m n b z few h =
    let less : m * unsigned_abs z ≤ n * unsigned_abs z = mul-le-mul few (omega arith) in
    let e : unsigned_abs (pos m *ℤ z) ≡ m * unsigned_abs z = unsigned_abs-mul (pos m) z in
    let f : unsigned_abs (pos n *ℤ z) ≡ n * unsigned_abs z = unsigned_abs-mul (pos n) z in
    omega (arith, less, e, f, h)

-- the payoffs before and after a deviation, what a difference counts, and a level
pub record IsGap (k f x y w : ℤ) : Type 0 where
  pub k_small : unsigned_abs k ≤ 2 ^ 10
  pub f_small : unsigned_abs f ≤ 2 ^ 60
  pub x_small : unsigned_abs x ≤ 2 ^ 26
  pub y_small : unsigned_abs y ≤ 2 ^ 26
  pub w_small : unsigned_abs w ≤ 2 ^ 50
  pub product_small : unsigned_abs (f *ℤ (x -ℤ y)) ≤ 2 ^ 51

difference_small : (k f x y w : ℤ) → IsGap k f x y w → unsigned_abs (x -ℤ y) ≤ 2 ^ 26 + 2 ^ 26
difference_small k f x y w h = abs_difference x y (2 ^ 26) (2 ^ 26) h.x_small h.y_small

difference_is : (k f x y w : ℤ) → IsGap k f x y w → W x -ℤ W y ≡ x -ℤ y
difference_is k f x y w h = rw (kept x (2 ^ 26) h.x_small (lit< tt), kept y (2 ^ 26) h.y_small (lit< tt)) refl

pub difference_fits : (k f x y w : ℤ) → IsGap k f x y w → FitsSigned w64 (W x -ℤ W y)
difference_fits k f x y w h = rw (difference_is k f x y w h) (fits64 (x -ℤ y) (2 ^ 26 + 2 ^ 26) (difference_small k f x y w h) (lit< tt))

product_is : (k f x y w : ℤ) → IsGap k f x y w → W f *ℤ W (W x -ℤ W y) ≡ f *ℤ (x -ℤ y)
product_is k f x y w h = rw (difference_is k f x y w h, kept f (2 ^ 60) h.f_small (lit< tt), kept (x -ℤ y) (2 ^ 26 + 2 ^ 26) (difference_small k f x y w h) (lit< tt)) refl

pub product_fits : (k f x y w : ℤ) → IsGap k f x y w → FitsSigned w64 (W f *ℤ W (W x -ℤ W y))
product_fits k f x y w h = rw (product_is k f x y w h) (fits64 (f *ℤ (x -ℤ y)) (2 ^ 51) h.product_small (lit< tt))

gain_small : (k f x y w : ℤ) → IsGap k f x y w → unsigned_abs (k *ℤ (f *ℤ (x -ℤ y))) ≤ 2 ^ 10 * 2 ^ 51
gain_small k f x y w h = abs_product k (f *ℤ (x -ℤ y)) (2 ^ 10) (2 ^ 51) h.k_small h.product_small

gain_is : (k f x y w : ℤ) → IsGap k f x y w → W k *ℤ W (W f *ℤ W (W x -ℤ W y)) ≡ k *ℤ (f *ℤ (x -ℤ y))
gain_is k f x y w h = rw (product_is k f x y w h, kept k (2 ^ 10) h.k_small (lit< tt), kept (f *ℤ (x -ℤ y)) (2 ^ 51) h.product_small (lit< tt)) refl

pub gain_fits : (k f x y w : ℤ) → IsGap k f x y w → FitsSigned w64 (W k *ℤ W (W f *ℤ W (W x -ℤ W y)))
gain_fits k f x y w h = rw (gain_is k f x y w h) (fits64 (k *ℤ (f *ℤ (x -ℤ y))) (2 ^ 10 * 2 ^ 51) (gain_small k f x y w h) (lit< tt))

pub gap_small : (k f x y w : ℤ) → IsGap k f x y w → unsigned_abs (w -ℤ (k *ℤ (f *ℤ (x -ℤ y)))) ≤ 2 ^ 62
gap_small k f x y w h =
    let s : unsigned_abs (w -ℤ (k *ℤ (f *ℤ (x -ℤ y)))) ≤ 2 ^ 50 + 2 ^ 10 * 2 ^ 51 = abs_difference w (k *ℤ (f *ℤ (x -ℤ y))) (2 ^ 50) (2 ^ 10 * 2 ^ 51) h.w_small (gain_small k f x y w h) in
    omega (arith, s)

gap_is : (k f x y w : ℤ) → IsGap k f x y w → W w -ℤ W (W k *ℤ W (W f *ℤ W (W x -ℤ W y))) ≡ w -ℤ (k *ℤ (f *ℤ (x -ℤ y)))
gap_is k f x y w h = rw (gain_is k f x y w h, kept w (2 ^ 50) h.w_small (lit< tt), kept (k *ℤ (f *ℤ (x -ℤ y))) (2 ^ 10 * 2 ^ 51) (gain_small k f x y w h) (lit< tt)) refl

pub gap_fits : (k f x y w : ℤ) → IsGap k f x y w → FitsSigned w64 (W w -ℤ W (W k *ℤ W (W f *ℤ W (W x -ℤ W y))))
gap_fits k f x y w h = rw (gap_is k f x y w h) (fits64 (w -ℤ (k *ℤ (f *ℤ (x -ℤ y)))) (2 ^ 62) (gap_small k f x y w h) (lit< tt))

-- the whole
pub code_is : (k f x y w : ℤ) → IsGap k f x y w → W (W w -ℤ W (W k *ℤ W (W f *ℤ W (W x -ℤ W y)))) ≡ w -ℤ (k *ℤ (f *ℤ (x -ℤ y)))
code_is k f x y w h = rw (gap_is k f x y w h) (kept (w -ℤ (k *ℤ (f *ℤ (x -ℤ y)))) (2 ^ 62) (gap_small k f x y w h) (lit< tt))

pub gain_by_factors : (a b c : ℕ) (z : ℤ) → pos a *ℤ (pos (b * c) *ℤ z) ≡ pos (a * b * c) *ℤ z
gain_by_factors a b c z = ring (pos a ∷ pos b ∷ pos c ∷ z ∷ []) (var 0 ⊗ ((var 1 ⊗ var 2) ⊗ var 3)) (((var 0 ⊗ var 1) ⊗ var 2) ⊗ var 3) refl

-- the difference of two payoffs, in the unit of levels
pub scaled_difference : (f u v : ℤ) → unsigned_abs (f *ℤ u) ≤ 2 ^ 50 → unsigned_abs (f *ℤ v) ≤ 2 ^ 50 → unsigned_abs (f *ℤ (u -ℤ v)) ≤ 2 ^ 51
scaled_difference f u v h k =
    let e : f *ℤ (u -ℤ v) ≡ (f *ℤ u) -ℤ (f *ℤ v) = ring (f ∷ u ∷ v ∷ []) (var 0 ⊗ (var 1 ⊖ var 2)) ((var 0 ⊗ var 1) ⊖ (var 0 ⊗ var 2)) refl in
    let s : unsigned_abs ((f *ℤ u) -ℤ (f *ℤ v)) ≤ 2 ^ 50 + 2 ^ 50 = abs_difference (f *ℤ u) (f *ℤ v) (2 ^ 50) (2 ^ 50) h k in
    rw e (omega (arith, s))

-- what a payoff counts in a value
pub record IsStage (k b f x : ℤ) : Type 0 where
  pub k_small : unsigned_abs k ≤ 2 ^ 10
  pub b_small : unsigned_abs b ≤ 2 ^ 30
  pub f_small : unsigned_abs f ≤ 2 ^ 30
  pub x_small : unsigned_abs x ≤ 2 ^ 26
  pub product_small : unsigned_abs ((b *ℤ f) *ℤ x) ≤ 2 ^ 50

fine_is : (k b f x : ℤ) → IsStage k b f x → W (W b *ℤ W f) ≡ b *ℤ f
fine_is k b f x h =
    rw (kept b (2 ^ 30) h.b_small (lit< tt), kept f (2 ^ 30) h.f_small (lit< tt))
    (kept (b *ℤ f) (2 ^ 30 * 2 ^ 30) (abs_product b f (2 ^ 30) (2 ^ 30) h.b_small h.f_small) (lit< tt))

scaled_is : (k b f x : ℤ) → IsStage k b f x → W (W b *ℤ W f) *ℤ W x ≡ (b *ℤ f) *ℤ x
scaled_is k b f x h = rw (fine_is k b f x h, kept x (2 ^ 26) h.x_small (lit< tt)) refl

pub scaled_fits : (k b f x : ℤ) → IsStage k b f x → FitsSigned w64 (W (W b *ℤ W f) *ℤ W x)
scaled_fits k b f x h = rw (scaled_is k b f x h) (fits64 ((b *ℤ f) *ℤ x) (2 ^ 50) h.product_small (lit< tt))

stage_small : (k b f x : ℤ) → IsStage k b f x → unsigned_abs (k *ℤ ((b *ℤ f) *ℤ x)) ≤ 2 ^ 10 * 2 ^ 50
stage_small k b f x h = abs_product k ((b *ℤ f) *ℤ x) (2 ^ 10) (2 ^ 50) h.k_small h.product_small

weighed_is : (k b f x : ℤ) → IsStage k b f x → W k *ℤ W (W (W b *ℤ W f) *ℤ W x) ≡ k *ℤ ((b *ℤ f) *ℤ x)
weighed_is k b f x h = rw (scaled_is k b f x h, kept k (2 ^ 10) h.k_small (lit< tt), kept ((b *ℤ f) *ℤ x) (2 ^ 50) h.product_small (lit< tt)) refl

pub weighed_fits : (k b f x : ℤ) → IsStage k b f x → FitsSigned w64 (W k *ℤ W (W (W b *ℤ W f) *ℤ W x))
weighed_fits k b f x h = rw (weighed_is k b f x h) (fits64 (k *ℤ ((b *ℤ f) *ℤ x)) (2 ^ 10 * 2 ^ 50) (stage_small k b f x h) (lit< tt))

pub stage_is : (k b f x : ℤ) → IsStage k b f x → W (W k *ℤ W (W (W b *ℤ W f) *ℤ W x)) ≡ k *ℤ ((b *ℤ f) *ℤ x)
stage_is k b f x h = rw (weighed_is k b f x h) (kept (k *ℤ ((b *ℤ f) *ℤ x)) (2 ^ 10 * 2 ^ 50) (stage_small k b f x h) (lit< tt))

pub stage_code_small : (k b f x : ℤ) → IsStage k b f x → unsigned_abs (W (W k *ℤ W (W (W b *ℤ W f) *ℤ W x))) ≤ 2 ^ 60
stage_code_small k b f x h = rw (stage_is k b f x h) (let s : unsigned_abs (k *ℤ ((b *ℤ f) *ℤ x)) ≤ 2 ^ 10 * 2 ^ 50 = stage_small k b f x h in omega (arith, s))

pub stage_by_factors : (a b c : ℕ) (z : ℤ) → pos a *ℤ ((pos b *ℤ pos c) *ℤ z) ≡ pos (a * b * c) *ℤ z
stage_by_factors a b c z = ring (pos a ∷ pos b ∷ pos c ∷ z ∷ []) (var 0 ⊗ ((var 1 ⊗ var 2) ⊗ var 3)) (((var 0 ⊗ var 1) ⊗ var 2) ⊗ var 3) refl

-- the quotient of the base, times 2^grid
pub unit_is : (b p f : ℕ) → b ≤ 2 ^ 30 → p ≤ 2 ^ 30 → f ≤ 2 ^ 30 → W (W (quot_z (W (pos b)) (W (pos p))) *ℤ W (pos f)) ≡ pos ((b / p) * f)
unit_is b p f hb hp hf =
    let q : b / p ≤ 2 ^ 30 = omega (arith, div-le_self b p, hb) in
    rw (kept (pos b) (2 ^ 30) hb (lit< tt), kept (pos p) (2 ^ 30) hp (lit< tt), kept (pos (b / p)) (2 ^ 30) q (lit< tt), kept (pos f) (2 ^ 30) hf (lit< tt))
    (kept (pos ((b / p) * f)) (2 ^ 30 * 2 ^ 30) (mul-le-mul q hf) (lit< tt))
