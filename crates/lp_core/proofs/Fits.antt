-- Numbers that fit 128 bits.
use Rattle.std.proofs.Common.{◌≡◌, ℕ, zero, suc, ◌*◌, ◌<◌, ◌≤◌, ◌^◌, List, [], ◌∷◌, length, arith, lit<, subst}
use Rattle.std.proofs.lemmas.List.Elements.{All-cons, All-nil}
use Rattle.std.specs.Prelude.{ℤ, All, ◌+ℤ◌, ◌*ℤ◌}
use Rattle.std.specs.Int.{w128}
use Rattle.std.specs.Int.RustNames.{FitsSigned, unsigned_abs}
use Rattle.std.proofs.lemmas.Int.{fits_signed_from_abs}
use Rattle.exact_algebra.proofs.Order.{abs_product, abs_sum}
use Rattle.lp_cert.specs.Program.{entry}
use Rattle.lp_core.specs.Sizes.{AreAtMost, IsSmallLine}
use Rattle.lp_core.specs.declared.pivot.Pivot.{Pivot}

pub fits : (x : ℤ) (m : ℕ) → unsigned_abs x ≤ m → m < 2 ^ 127 → FitsSigned w128 x
fits x m h l = fits_signed_from_abs w128 x (omega (arith, h, l))

-- what fits where two vectors are multiplied
pub record ProductFits (c y : List ℤ) : Type 0 where
  pub c0 : FitsSigned w128 (entry c 0)
  pub c1 : FitsSigned w128 (entry c 1)
  pub c2 : FitsSigned w128 (entry c 2)
  pub y0 : FitsSigned w128 (entry y 0)
  pub y1 : FitsSigned w128 (entry y 1)
  pub y2 : FitsSigned w128 (entry y 2)
  pub p0 : FitsSigned w128 (entry c 0 *ℤ entry y 0)
  pub p1 : FitsSigned w128 (entry c 1 *ℤ entry y 1)
  pub p2 : FitsSigned w128 (entry c 2 *ℤ entry y 2)
  pub s : FitsSigned w128 (entry c 1 *ℤ entry y 1 +ℤ entry c 2 *ℤ entry y 2)
  pub t : FitsSigned w128 (entry c 0 *ℤ entry y 0 +ℤ (entry c 1 *ℤ entry y 1 +ℤ entry c 2 *ℤ entry y 2))

pub product_fits : (c y : List ℤ) → AreAtMost (2 ^ 21) c → AreAtMost (2 ^ 90) y → ProductFits c y
product_fits c y h k =
    let a = abs_product (entry c 0) (entry y 0) (2 ^ 21) (2 ^ 90) h.first k.first in
    let b = abs_product (entry c 1) (entry y 1) (2 ^ 21) (2 ^ 90) h.second k.second in
    let d = abs_product (entry c 2) (entry y 2) (2 ^ 21) (2 ^ 90) h.third k.third in
    let e = abs_sum (entry c 1 *ℤ entry y 1) (entry c 2 *ℤ entry y 2) _ _ b d in
    let f = abs_sum (entry c 0 *ℤ entry y 0) (entry c 1 *ℤ entry y 1 +ℤ entry c 2 *ℤ entry y 2) _ _ a e in
    record {
      c0 = fits _ _ h.first (lit< tt);
      c1 = fits _ _ h.second (lit< tt);
      c2 = fits _ _ h.third (lit< tt);
      y0 = fits _ _ k.first (lit< tt);
      y1 = fits _ _ k.second (lit< tt);
      y2 = fits _ _ k.third (lit< tt);
      p0 = fits _ _ a (lit< tt);
      p1 = fits _ _ b (lit< tt);
      p2 = fits _ _ d (lit< tt);
      s = fits _ _ e (lit< tt);
      t = fits _ _ f (lit< tt);
    }

pub more : (m n : ℕ) (c : List ℤ) → m ≤ n → AreAtMost m c → AreAtMost n c
more m n c l h = record { first = omega (arith, l, h.first); second = omega (arith, l, h.second); third = omega (arith, l, h.third) }

pub at_place : (m j : ℕ) (c : List ℤ) → j < 3 → AreAtMost m c → unsigned_abs (entry c j) ≤ m
at_place m zero c l h = h.first
at_place m (suc zero) c l h = h.second
at_place m (suc (suc zero)) c l h = h.third
at_place m (suc (suc (suc j))) c l h = absurd (omega (arith, l))

-- three numbers as a vector
pub by_place : (a b d : ℤ) (f : ℕ → ℤ) → a ≡ f 0 → b ≡ f 1 → d ≡ f 2 → (k : ℕ) → k < 3 → entry (a ∷ b ∷ d ∷ []) k ≡ f k
by_place a b d f p q r zero l = p
by_place a b d f p q r (suc zero) l = q
by_place a b d f p q r (suc (suc zero)) l = r
by_place a b d f p q r (suc (suc (suc k))) l = absurd (omega (arith, l))

-- the size of a pivot
pub pivot_small : (p : Pivot) (m h : ℕ) → IsSmallLine m h p.line → unsigned_abs p.size ≤ m
pivot_small p m h s =
    let a = abs_product p.sign (entry p.line.c p.place) 1 m p.small_sign (at_place m p.place p.line.c p.inside s.entries) in
    let b : unsigned_abs p.size ≤ 1 * m = subst (λ z. unsigned_abs z ≤ 1 * m) p.is_size a in
    omega (arith, b)

pub sign_times : (p : Pivot) (x : ℤ) (m : ℕ) → unsigned_abs x ≤ m → unsigned_abs (p.sign *ℤ x) ≤ m
sign_times p x m h = let a = abs_product p.sign x 1 m p.small_sign h in omega (arith, a)

pub sign_fits : (p : Pivot) → FitsSigned w128 p.sign
sign_fits p = fits p.sign 1 p.small_sign (lit< tt)

pub each_part : (m : ℕ) (y : List ℤ) → length y ≡ 3 → AreAtMost m y → All (λ x. unsigned_abs x ≤ m) y
each_part m (a ∷ b ∷ d ∷ []) e h =
    let P = λ (x : ℤ). unsigned_abs x ≤ m in
    All-cons P a (b ∷ d ∷ []) h.first (All-cons P b (d ∷ []) h.second (All-cons P d [] h.third (All-nil P)))
each_part m [] e h = absurd (omega (arith, e))
each_part m (a ∷ []) e h = absurd (omega (arith, e))
each_part m (a ∷ b ∷ []) e h = absurd (omega (arith, e))
each_part m (a ∷ b ∷ d ∷ f ∷ y) e h = absurd (omega (arith, e))
