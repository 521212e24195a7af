-- Small steps between whole numbers, and between inequalities.
use Rattle.std.proofs.Common.{◌≡◌, [], ◌∷◌, refl, subst, arith}
use Rattle.std.specs.Prelude.{ℤ, pos, ◌-ℤ◌, ◌*ℤ◌, ◌≤ℤ◌, ◌<ℤ◌, neg_ℤ}
use Rattle.std.proofs.lemmas.Int.{ints}
use Rattle.exact_algebra.specs.Poly.{var, lit, neg, ◌⊗◌}
use Rattle.exact_algebra.proofs.Normal.{ring}
use Rattle.exact_algebra.proofs.Order.{at_most_trans, at_most_from_times, times_at_most, below_from_times, times_swap}

-- ---- equations
pub nought_times : (a : ℤ) → pos 0 *ℤ a ≡ pos 0
nought_times a = ring (a ∷ []) (lit (pos 0) ⊗ var 0) (lit (pos 0)) refl

pub times_nought : (a : ℤ) → a *ℤ pos 0 ≡ pos 0
times_nought a = ring (a ∷ []) (var 0 ⊗ lit (pos 0)) (lit (pos 0)) refl

pub one_times : (a : ℤ) → pos 1 *ℤ a ≡ a
one_times a = ring (a ∷ []) (lit (pos 1) ⊗ var 0) (var 0) refl

pub minus_times : (a : ℤ) → neg_ℤ (pos 1) *ℤ a ≡ neg_ℤ a
minus_times a = ring (a ∷ []) (neg (lit (pos 1)) ⊗ var 0) (neg (var 0)) refl

pub negative_times : (a b : ℤ) → neg_ℤ a *ℤ b ≡ neg_ℤ (a *ℤ b)
negative_times a b = ring (a ∷ b ∷ []) (neg (var 0) ⊗ var 1) (neg (var 0 ⊗ var 1)) refl

-- ---- inequalities
-- between what the two sides are equal to
pub at_most_along : {a b c d : ℤ} → a ≡ c → b ≡ d → a ≤ℤ b → c ≤ℤ d
at_most_along {a} {b} {c} {d} e f h = subst (λ z. z ≤ℤ d) e (subst (λ z. a ≤ℤ z) f h)

pub below_along : {a b c d : ℤ} → a ≡ c → b ≡ d → a <ℤ b → c <ℤ d
below_along {a} {b} {c} {d} e f h = subst (λ z. z <ℤ d) e (subst (λ z. a <ℤ z) f h)

pub at_most_negated : (a b : ℤ) → a ≤ℤ b → neg_ℤ b ≤ℤ neg_ℤ a
at_most_negated a b h = omega (arith, ints)

pub at_most_turned : (a b : ℤ) → neg_ℤ a ≤ℤ b → neg_ℤ b ≤ℤ a
at_most_turned a b h = omega (arith, ints)

-- n ≤ z * d and z ≤ x give n ≤ x * d
pub widen : (d n z x : ℤ) → pos 0 <ℤ d → z ≤ℤ x → n ≤ℤ (z *ℤ d) → n ≤ℤ (x *ℤ d)
widen d n z x positive h k =
    at_most_trans n (z *ℤ d) (x *ℤ d) k (at_most_along (times_swap d z) (times_swap d x) (times_at_most d z x (omega (arith, ints)) h))

-- a greater level asks less of a deviation
pub loosen : (d n gain z x : ℤ) → pos 0 <ℤ d → z ≤ℤ x → ((gain -ℤ z) *ℤ d) ≤ℤ n → ((gain -ℤ x) *ℤ d) ≤ℤ n
loosen d n gain z x positive h k =
    at_most_trans ((gain -ℤ x) *ℤ d) ((gain -ℤ z) *ℤ d) n
    (at_most_along (times_swap d (gain -ℤ x)) (times_swap d (gain -ℤ z)) (times_at_most d (gain -ℤ x) (gain -ℤ z) (omega (arith, ints)) (omega (arith, ints)))) k

pub cancel : (d a b : ℤ) → pos 0 <ℤ d → (a *ℤ d) ≤ℤ (b *ℤ d) → a ≤ℤ b
cancel d a b positive h = at_most_from_times d a b positive (at_most_along (times_swap a d) (times_swap b d) h)

-- (x - 1) * d < v ≤ z * d gives x ≤ z
pub between_multiples : (d v x z : ℤ) → pos 0 <ℤ d → ((x -ℤ pos 1) *ℤ d) <ℤ v → v ≤ℤ (z *ℤ d) → x ≤ℤ z
between_multiples d v x z positive h k =
    let m : ((x -ℤ pos 1) *ℤ d) <ℤ (z *ℤ d) = omega (arith, ints) in
    let n : (x -ℤ pos 1) <ℤ z = below_from_times d (x -ℤ pos 1) z (omega (arith, ints)) (below_along (times_swap (x -ℤ pos 1) d) (times_swap z d) m) in
    omega (arith, ints)
