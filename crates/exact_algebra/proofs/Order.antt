-- Inequalities between signed whole numbers: products by a factor that is not negative, sums, absolute values.
use Rattle.std.proofs.Common.{◌≡◌, ℕ, ◌+◌, ◌*◌, ◌<◌, ◌≤◌, true, [], ◌∷◌, List, refl, sym, subst, arith}
use Rattle.std.specs.Prelude.{ℤ, pos, negsuc, ◌+ℤ◌, ◌-ℤ◌, ◌*ℤ◌, ◌≤ℤ◌, ◌<ℤ◌}
use Rattle.std.specs.Int.RustNames.{unsigned_abs}
use Rattle.std.proofs.Math.Nat.{mul-le-mul_left, mul-lt-mul_of_pos_right}
use Rattle.std.proofs.lemmas.Nat.{mul-le}
use Rattle.std.proofs.lemmas.Int.{ints, by_lt_z, unsigned_abs-mul}
use borrow.Author.Differences.{up, down, product_is, at_most_in, below_in, le_out, lt_out}
use lib.IntN.{neg_ℤ}
use Rattle.exact_algebra.specs.Poly.{Poly, var, lit, ◌⊖◌, ◌⊗◌, value}
use Rattle.exact_algebra.specs.Normal.{is_same}
use Rattle.exact_algebra.proofs.Normal.{ring}

-- ---- orders
pub at_most_trans : (a b c : ℤ) → a ≤ℤ b → b ≤ℤ c → a ≤ℤ c
at_most_trans a b c h k = omega (arith, ints)

pub below_at_most_trans : (a b c : ℤ) → a <ℤ b → b ≤ℤ c → a <ℤ c
below_at_most_trans a b c h k = omega (arith, ints)

pub at_most_below_trans : (a b c : ℤ) → a ≤ℤ b → b <ℤ c → a <ℤ c
at_most_below_trans a b c h k = omega (arith, ints)

pub at_most_self : (a : ℤ) → a ≤ℤ a
at_most_self a = omega (arith, ints)

pub at_most_from_same : (a b : ℤ) → a ≡ b → a ≤ℤ b
at_most_from_same a b e = omega (arith, ints)

pub same_from_at_most : (a b : ℤ) → a ≤ℤ b → b ≤ℤ a → a ≡ b
same_from_at_most a b h k = omega (arith, ints)

pub plus_at_most : (a b c d : ℤ) → a ≤ℤ b → c ≤ℤ d → (a +ℤ c) ≤ℤ (b +ℤ d)
plus_at_most a b c d h k = omega (arith, ints)

-- ---- products
-- the parts of a product by a number that is not negative
times_parts : (f a b : ℤ) → pos 0 ≤ℤ f → up a + down b ≤ up b + down a → up (f *ℤ a) + down (f *ℤ b) ≤ up (f *ℤ b) + down (f *ℤ a)
times_parts (pos n) a b z h = omega (arith, product_is (pos n) a, product_is (pos n) b, mul-le-mul_left n h)
times_parts (negsuc n) a b z h = absurd (omega (arith, ints))

pub times_at_most : (f a b : ℤ) → pos 0 ≤ℤ f → a ≤ℤ b → (f *ℤ a) ≤ℤ (f *ℤ b)
times_at_most f a b z h = at_most_in (f *ℤ a) (f *ℤ b) (times_parts f a b z (le_out a b h))

below_parts : (f a b : ℤ) → pos 0 <ℤ f → up a + down b < up b + down a → up (f *ℤ a) + down (f *ℤ b) < up (f *ℤ b) + down (f *ℤ a)
below_parts (pos n) a b z h =
    let p : 0 < n = omega (arith, ints) in
    let q : (up a + down b) * n < (up b + down a) * n = mul-lt-mul_of_pos_right h p in
    omega (arith, product_is (pos n) a, product_is (pos n) b)
below_parts (negsuc n) a b z h = absurd (omega (arith, ints))

pub times_below : (f a b : ℤ) → pos 0 <ℤ f → a <ℤ b → (f *ℤ a) <ℤ (f *ℤ b)
times_below f a b z h = below_in (f *ℤ a) (f *ℤ b) (below_parts f a b z (lt_out a b h))

pub at_most_from_times : (f a b : ℤ) → pos 0 <ℤ f → (f *ℤ a) ≤ℤ (f *ℤ b) → a ≤ℤ b
at_most_from_times f a b z h = by_lt_z b a (λ k. absurd (let m : (f *ℤ b) <ℤ (f *ℤ a) = times_below f b a z k in omega (arith, ints))) (λ k. k)

pub below_from_times : (f a b : ℤ) → pos 0 ≤ℤ f → (f *ℤ a) <ℤ (f *ℤ b) → a <ℤ b
below_from_times f a b z h = by_lt_z a b (λ k. k) (λ k. absurd (let m : (f *ℤ b) ≤ℤ (f *ℤ a) = times_at_most f b a z k in omega (arith, ints)))

pub same_from_times : (f a b : ℤ) → pos 0 <ℤ f → f *ℤ a ≡ f *ℤ b → a ≡ b
same_from_times f a b z h =
    same_from_at_most a b
    (at_most_from_times f a b z (at_most_from_same (f *ℤ a) (f *ℤ b) h))
    (at_most_from_times f b a z (at_most_from_same (f *ℤ b) (f *ℤ a) (sym h)))

pub product_at_least_zero : (a b : ℤ) → pos 0 ≤ℤ a → pos 0 ≤ℤ b → pos 0 ≤ℤ (a *ℤ b)
product_at_least_zero (pos m) (pos n) h k = omega (arith, ints)
product_at_least_zero (pos m) (negsuc n) h k = absurd (omega (arith, ints))
product_at_least_zero (negsuc m) b h k = absurd (omega (arith, ints))

pub product_above_zero : (a b : ℤ) → pos 0 <ℤ a → pos 0 <ℤ b → pos 0 <ℤ (a *ℤ b)
product_above_zero a b h k =
    let e : a *ℤ pos 0 ≡ pos 0 = ring (a ∷ []) (var 0 ⊗ lit (pos 0)) (lit (pos 0)) refl in
    let m : (a *ℤ pos 0) <ℤ (a *ℤ b) = times_below a (pos 0) b h k in
    subst (λ z. z <ℤ (a *ℤ b)) e m

at_most_from_difference : (a b : ℤ) → pos 0 ≤ℤ (b -ℤ a) → a ≤ℤ b
at_most_from_difference a b h = omega (arith, ints)

below_from_difference : (a b : ℤ) → pos 0 <ℤ (b -ℤ a) → a <ℤ b
below_from_difference a b h = omega (arith, ints)

-- ---- claims on polynomials: the difference of the two sides is a polynomial that is not negative, or above 0
pub at_most_by : (xs : List ℤ) (a b rest : Poly) → is_same (b ⊖ a) rest ≡ true → pos 0 ≤ℤ value xs rest → value xs a ≤ℤ value xs b
at_most_by xs a b rest e h =
    let d : value xs b -ℤ value xs a ≡ value xs rest = ring xs (b ⊖ a) rest e in
    let k : pos 0 ≤ℤ (value xs b -ℤ value xs a) = subst (λ z. pos 0 ≤ℤ z) (sym d) h in
    at_most_from_difference (value xs a) (value xs b) k

pub below_by : (xs : List ℤ) (a b rest : Poly) → is_same (b ⊖ a) rest ≡ true → pos 0 <ℤ value xs rest → value xs a <ℤ value xs b
below_by xs a b rest e h =
    let d : value xs b -ℤ value xs a ≡ value xs rest = ring xs (b ⊖ a) rest e in
    let k : pos 0 <ℤ (value xs b -ℤ value xs a) = subst (λ z. pos 0 <ℤ z) (sym d) h in
    below_from_difference (value xs a) (value xs b) k

-- ---- absolute values
pub abs_product : (a b : ℤ) (m n : ℕ) → unsigned_abs a ≤ m → unsigned_abs b ≤ n → unsigned_abs (a *ℤ b) ≤ m * n
abs_product a b m n h k = omega (arith, unsigned_abs-mul a b, mul-le (unsigned_abs a) (unsigned_abs b) m n h k)

pub abs_sum : (a b : ℤ) (m n : ℕ) → unsigned_abs a ≤ m → unsigned_abs b ≤ n → unsigned_abs (a +ℤ b) ≤ m + n
abs_sum a b m n h k = omega (arith, ints)

pub abs_difference : (a b : ℤ) (m n : ℕ) → unsigned_abs a ≤ m → unsigned_abs b ≤ n → unsigned_abs (a -ℤ b) ≤ m + n
abs_difference a b m n h k = omega (arith, ints)

pub abs_neg : (a : ℤ) (m : ℕ) → unsigned_abs a ≤ m → unsigned_abs (neg_ℤ a) ≤ m
abs_neg a m h = omega (arith, ints)

-- an absolute value is a bound above and below
pub within_abs : (a : ℤ) (m : ℕ) → unsigned_abs a ≤ m → (neg_ℤ (pos m) ≤ℤ a) × (a ≤ℤ pos m)
within_abs a m h = (omega (arith, ints), omega (arith, ints))

pub abs_within : (a : ℤ) (m : ℕ) → neg_ℤ (pos m) ≤ℤ a → a ≤ℤ pos m → unsigned_abs a ≤ m
abs_within a m h k = omega (arith, ints)

-- ---- signs
pub positive_at_least_zero : (a : ℤ) → pos 0 <ℤ a → pos 0 ≤ℤ a
positive_at_least_zero a h = omega (arith, ints)

pub sum_at_least_zero : (a b : ℤ) → pos 0 ≤ℤ a → pos 0 ≤ℤ b → pos 0 ≤ℤ (a +ℤ b)
sum_at_least_zero a b h k = omega (arith, ints)

pub positive_is : (a : ℤ) → pos 0 <ℤ a → a ≡ pos (unsigned_abs a)
positive_is a h = omega (arith, ints)

pub times_swap : (a b : ℤ) → a *ℤ b ≡ b *ℤ a
times_swap a b = ring (a ∷ b ∷ []) (var 0 ⊗ var 1) (var 1 ⊗ var 0) refl
