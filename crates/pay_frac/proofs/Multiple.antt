-- The least common multiple of signed numbers, as the code forms it.
use Rattle.std.proofs.Common.{◌≡◌, ℕ, ◌*◌, ◌/◌, ◌<◌, min, refl, sym, ap, subst, ◌∙◌, arith}
use Rattle.std.specs.Prelude.{ℤ, pos, negsuc, ◌*ℤ◌, ◌<ℤ◌}
use Rattle.std.specs.Int.RustNames.{int_div, FitsSigned, unsigned_abs}
use Rattle.std.specs.Int.{IsGcd, w128}
use Rattle.std.proofs.lemmas.Int.{ints, by_lt_z}
use Rattle.pay_frac.specs.Whole.{IsLcm}
use Rattle.pay_frac.proofs.Coprime.{multiple, same_lcm, positive_product, positive_quotient}

abbrev multiple_of : ℤ → ℤ → ℤ → ℕ
multiple_of a b g = unsigned_abs a / unsigned_abs g * unsigned_abs b

formed : (a b g : ℤ) → pos 0 <ℤ a → pos 0 <ℤ b → pos 0 <ℤ g → int_div a g *ℤ b ≡ pos (multiple_of a b g)
formed (pos a) (pos b) (pos g) h k l = refl
formed (pos a) (pos b) (negsuc g) h k l = absurd (omega (arith, ints))
formed (pos a) (negsuc b) g h k l = absurd (omega (arith, ints))
formed (negsuc a) b g h k l = absurd (omega (arith, ints))

is_multiple : (a b g : ℤ) → pos 0 <ℤ g → IsGcd (unsigned_abs a) (unsigned_abs b) (unsigned_abs g) → IsLcm (unsigned_abs a) (unsigned_abs b) (multiple_of a b g)
is_multiple a b g h d = multiple (unsigned_abs a) (unsigned_abs b) (unsigned_abs g) (omega (arith, ints)) d

above_unfit : (bound : ℤ) (m : ℕ) → FitsSigned w128 bound → (FitsSigned w128 (pos m) → ⊥) → bound <ℤ pos m
above_unfit bound m f n =
    by_lt_z bound (pos m) (λ h. h) (λ h. absurd (n (record { sfits = omega (arith, ints, f.sfits) })))

-- a product that doesn't fit, or is above the bound, is a multiple above the bound
pub beyond_from_unfit : (a b g bound : ℤ) → pos 0 <ℤ a → pos 0 <ℤ b → pos 0 <ℤ g
    → IsGcd (unsigned_abs a) (unsigned_abs b) (unsigned_abs g) → FitsSigned w128 bound → (FitsSigned w128 (int_div a g *ℤ b) → ⊥)
    → (m : ℕ) → IsLcm (unsigned_abs a) (unsigned_abs b) m → bound <ℤ pos m
beyond_from_unfit a b g bound h k l d f n m i =
    let e : m ≡ multiple_of a b g = same_lcm (unsigned_abs a) (unsigned_abs b) m (multiple_of a b g) i (is_multiple a b g l d) in
    let p : FitsSigned w128 (pos m) → ⊥ = λ (x : FitsSigned w128 (pos m)). n (subst (λ z. FitsSigned w128 z) (ap pos e ∙ sym (formed a b g h k l)) x) in
    above_unfit bound m f p

pub beyond_from_above : (a b g bound product : ℤ) → pos 0 <ℤ a → pos 0 <ℤ b → pos 0 <ℤ g
    → IsGcd (unsigned_abs a) (unsigned_abs b) (unsigned_abs g) → product ≡ int_div a g *ℤ b → bound <ℤ product
    → (m : ℕ) → IsLcm (unsigned_abs a) (unsigned_abs b) m → bound <ℤ pos m
beyond_from_above a b g bound product h k l d x y m i =
    let e : multiple_of a b g ≡ m = same_lcm (unsigned_abs a) (unsigned_abs b) (multiple_of a b g) m (is_multiple a b g l d) i in
    subst (λ z. bound <ℤ z) (x ∙ formed a b g h k l ∙ ap pos e) y

pub lcm_from_product : (a b g product : ℤ) → pos 0 <ℤ a → pos 0 <ℤ b → pos 0 <ℤ g
    → IsGcd (unsigned_abs a) (unsigned_abs b) (unsigned_abs g) → product ≡ int_div a g *ℤ b
    → IsLcm (unsigned_abs a) (unsigned_abs b) (unsigned_abs product)
lcm_from_product a b g product h k l d x =
    subst (λ n. IsLcm (unsigned_abs a) (unsigned_abs b) n) (sym (ap unsigned_abs (x ∙ formed a b g h k l))) (is_multiple a b g l d)

-- a multiple of positive numbers is positive
pub product_positive : (a b g product : ℤ) → pos 0 <ℤ a → pos 0 <ℤ b → pos 0 <ℤ g
    → IsGcd (unsigned_abs a) (unsigned_abs b) (unsigned_abs g) → product ≡ int_div a g *ℤ b → pos 0 <ℤ product
product_positive a b g product h k l d x =
    let p : 0 < unsigned_abs a = omega (arith, ints) in
    let q : 0 < unsigned_abs b = omega (arith, ints) in
    let r : 0 < multiple_of a b g = positive_product (unsigned_abs a / unsigned_abs g) (unsigned_abs b) (positive_quotient (unsigned_abs a) (unsigned_abs g) p (omega (arith, ints)) d.0) q in
    subst (λ z. pos 0 <ℤ z) (sym (x ∙ formed a b g h k l)) (omega (arith, ints))

quotient_abs : (a g : ℤ) → pos 0 <ℤ a → pos 0 <ℤ g → unsigned_abs (int_div a g) ≡ unsigned_abs a / unsigned_abs g
quotient_abs (pos a) (pos g) h l = refl
quotient_abs (pos a) (negsuc g) h l = absurd (omega (arith, ints))
quotient_abs (negsuc a) g h l = absurd (omega (arith, ints))

-- the capped product of a quotient by the common divisor and the other number is the capped multiple
pub capped_from_product : (a b g result : ℤ) (most : ℕ) → pos 0 <ℤ a → pos 0 <ℤ b → pos 0 <ℤ g
    → IsGcd (unsigned_abs a) (unsigned_abs b) (unsigned_abs g) → result ≡ pos (min (unsigned_abs (int_div a g) * unsigned_abs b) most)
    → (m : ℕ) × IsLcm (unsigned_abs a) (unsigned_abs b) m × (result ≡ pos (min m most))
capped_from_product a b g result most h k l d e =
    (multiple_of a b g, is_multiple a b g l d, e ∙ ap (λ n. pos (min (n * unsigned_abs b) most)) (quotient_abs a g h l))
