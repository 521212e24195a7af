-- Numbers that are told as 2^127 - 1 where they are larger.
use Rattle.std.specs.Prelude.{nat_lt, if◌then◌else◌, ℤ, pos, negsuc, neg_ℤ, ◌*ℤ◌, ◌<ℤ◌, ◌≤ℤ◌, min, unsigned_abs}
use Rattle.std.proofs.Common.{◌≡◌, ℕ, ◌*◌, ◌/◌, ◌-◌, ◌^◌, ◌<◌, ◌≤◌, Bool, true, false, Result, Ok, Err, sym, ◌∙◌, ap, subst, arith, lit<}
use Rattle.std.proofs.Math.IntN.{pos-*ℤ-pos, negsuc-*ℤ-pos}
use Rattle.std.proofs.lemmas.Int.{ints}
use Rattle.std.proofs.lemmas.Bool.Decides.{nat_tests}
use Rattle.nfg_text.specs.declared.what.What.{What}
use Rattle.pay_frac.specs.Whole.{IsLcm}
use Rattle.std.proofs.Math.Nat.{div-le_self, dvd-mul_left, dvd-mul_right, pos_of_dvd_of_pos}
use Rattle.pay_frac.proofs.Coprime.{positive_product, same_lcm}
use Rattle.selfgen_check.specs.declared.text_fault.CorrTextFault.{CorrTextFault}
use Rattle.selfgen_check.specs.declared.text_fault.CorrTextFault.TheVariants.{Wide}
use Rattle.nfg_text.specs.declared.what.What.TheVariants.{Common, Point}
use Rattle.pay_frac.specs.Ratio.{Ratio}
use Rattle.selfgen_check.specs.Measures.{within, common_multiple, with_part, scaled}
use Rattle.selfgen_check.specs.TextFaults.{◌>>=◌}
use Rattle.selfgen_check.proofs.Keeps.{least_multiple}

larger : (most n : ℕ) → most < n → nat_lt most n ≡ true
larger most n l = grind (arith, nat_tests)

no_larger : (most n : ℕ) → n ≤ most → nat_lt most n ≡ false
no_larger most n l = grind (arith, nat_tests)

pub over : (what : What) (most n : ℕ) (z : ℤ) → z ≡ pos (min n (2 ^ 127 - 1)) → pos most <ℤ z → within what most n ≡ Err (Wide what z)
over what most n z e l =
    let f : Bool → Result ℕ CorrTextFault = λ b. if b then Err (Wide what (pos (min n (2 ^ 127 - 1)))) else Ok n in
    let m : most < n = omega (arith, ints) in
    ap f (larger most n m) ∙ ap (λ (z : ℤ). Err (Wide what z)) (sym e)

-- a number within a limit below 2^127 - 1 is told as it is
pub exact : (most n : ℕ) (z : ℤ) → most < 2 ^ 127 - 1 → z ≡ pos (min n (2 ^ 127 - 1)) → z ≤ℤ pos most → (n ≤ most) × (z ≡ pos n)
exact most n z small e l =
    let h : n ≤ most = omega (arith, ints) in
    (h, omega (arith, ints))

pub under : (what : What) (most n : ℕ) → n ≤ most → within what most n ≡ Ok n
under what most n l =
    let f : Bool → Result ℕ CorrTextFault = λ b. if b then Err (Wide what (pos (min n (2 ^ 127 - 1)))) else Ok n in
    ap f (no_larger most n l)

pub multiple_is : (a b m : ℕ) → 0 < a → IsLcm a b m → m ≡ common_multiple a b
multiple_is a b m h l = same_lcm a b m (common_multiple a b) l (least_multiple a b h)

pub multiple_told : (a : ℕ) (x b z : ℤ) → 0 < a → x ≡ pos a → ((m : ℕ) × IsLcm (unsigned_abs x) (unsigned_abs b) m × (z ≡ pos (min m (2 ^ 127 - 1)))) → z ≡ pos (min (common_multiple a (unsigned_abs b)) (2 ^ 127 - 1))
multiple_told a x b z h e f =
    let l : IsLcm a (unsigned_abs b) f.0 = subst (λ (x : ℤ). IsLcm (unsigned_abs x) (unsigned_abs b) f.0) e f.1 in
    f.2 ∙ ap (λ (n : ℕ). pos (min n (2 ^ 127 - 1))) (multiple_is a (unsigned_abs b) f.0 h l)

pub multiple_positive : (a : ℕ) (x b z : ℤ) → 0 < a → pos 0 <ℤ b → x ≡ pos a → ((m : ℕ) × IsLcm (unsigned_abs x) (unsigned_abs b) m × (z ≡ pos (min m (2 ^ 127 - 1)))) → pos 0 <ℤ z
multiple_positive a x b z h k e f =
    let l : IsLcm a (unsigned_abs b) f.0 = subst (λ (x : ℤ). IsLcm (unsigned_abs x) (unsigned_abs b) f.0) e f.1 in
    let d : 0 < unsigned_abs b = omega (arith, ints) in
    let m : 0 < f.0 = pos_of_dvd_of_pos (l.least (a * unsigned_abs b) (dvd-mul_right a (unsigned_abs b)) (dvd-mul_left (unsigned_abs b) a)) (positive_product a (unsigned_abs b) h d) in
    let w : z ≡ pos (min f.0 (2 ^ 127 - 1)) = f.2 in
    omega (arith, ints)

pub quotient_small : (m n : ℕ) → m / n ≤ m
quotient_small m n = div-le_self m n

-- the size of a product with a sign
pub signed_up : (z : ℤ) (k : ℕ) → pos 0 ≤ℤ z → pos (unsigned_abs z * k) ≡ z *ℤ pos k
signed_up (pos n) k h = sym (pos-*ℤ-pos n k)
signed_up (negsuc n) k h = absurd (omega (arith, ints, h))

pub signed_down : (z : ℤ) (k : ℕ) → z <ℤ pos 0 → neg_ℤ (pos (unsigned_abs z * k)) ≡ z *ℤ pos k
signed_down (pos n) k h = absurd (omega (arith, ints, h))
signed_down (negsuc n) k h = sym (negsuc-*ℤ-pos n k)

-- ---- one part
pub part_over : (m : ℕ) (r : Ratio) (z : ℤ) → z ≡ pos (min (common_multiple m (unsigned_abs r.den)) (2 ^ 127 - 1)) → pos (2 ^ 44) <ℤ z → with_part m r ≡ Err (Wide Common z)
unfolding with_part
part_over m r z e l = over Common (2 ^ 44) (common_multiple m (unsigned_abs r.den)) z e l

pub part_under : (m : ℕ) (r : Ratio) (z : ℤ) → z ≡ pos (min (common_multiple m (unsigned_abs r.den)) (2 ^ 127 - 1)) → z ≤ℤ pos (2 ^ 44) → with_part m r ≡ Ok (unsigned_abs z)
unfolding with_part
part_under m r z e l =
    let n = common_multiple m (unsigned_abs r.den) in
    let x = exact (2 ^ 44) n z (lit< tt) e l in
    under Common (2 ^ 44) n x.0 ∙ ap (λ (z : ℤ). Ok (unsigned_abs z)) (sym x.1)

pub scaled_over : (m : ℕ) (r : Ratio) (z : ℤ) → z ≡ pos (min (unsigned_abs r.num * (m / unsigned_abs r.den)) (2 ^ 127 - 1)) → pos (2 ^ 30) <ℤ z → scaled m r ≡ Err (Wide Point z)
unfolding scaled
scaled_over m r z e l =
    let k = m / unsigned_abs r.den in
    let give : Result ℕ CorrTextFault → Result ℤ CorrTextFault = λ w. w >>= λ n. Ok (r.num *ℤ pos k) in
    ap give (over Point (2 ^ 30) (unsigned_abs r.num * k) z e l)

pub scaled_under : (m : ℕ) (r : Ratio) (z v : ℤ) → z ≡ pos (min (unsigned_abs r.num * (m / unsigned_abs r.den)) (2 ^ 127 - 1)) → z ≤ℤ pos (2 ^ 30)
    → ((k : ℕ) → z ≡ pos (unsigned_abs r.num * k) → v ≡ r.num *ℤ pos k) → scaled m r ≡ Ok v
unfolding scaled
scaled_under m r z v e l f =
    let k = m / unsigned_abs r.den in
    let x = exact (2 ^ 30) (unsigned_abs r.num * k) z (lit< tt) e l in
    let give : Result ℕ CorrTextFault → Result ℤ CorrTextFault = λ w. w >>= λ n. Ok (r.num *ℤ pos k) in
    ap give (under Point (2 ^ 30) (unsigned_abs r.num * k) x.0) ∙ ap (λ (z : ℤ). Ok z) (sym (f k x.1))
