-- What holds of each of a few players or states, by cases, and that small payoffs keep the limit.
use Rattle.std.proofs.Common.{◌≡◌, ℕ, zero, suc, ◌*◌, ◌<◌, ◌≤◌, ◌^◌, [], ◌∷◌, get_or, arith, neg_ℤ, pos, ◌≤ℤ◌}
use Rattle.std.proofs.lemmas.Int.{ints}

pub below_one : (P : ℕ → Type 0) → P 0 → (i : ℕ) → i < 1 → P i
below_one P a zero h = a
below_one P a (suc i) h = absurd (omega arith)

pub below_two : (P : ℕ → Type 0) → P 0 → P 1 → (i : ℕ) → i < 2 → P i
below_two P a b zero h = a
below_two P a b (suc zero) h = b
below_two P a b (suc (suc i)) h = absurd (omega arith)

pub two_at : (x : ℕ) (P : ℕ → Type 0) → P x → (i : ℕ) → i < 2 → P (get_or (x ∷ x ∷ []) i 0)
two_at x P a zero h = a
two_at x P a (suc zero) h = a
two_at x P a (suc (suc i)) h = absurd (omega arith)

pub divides_one : (d k : ℕ) → 1 ≡ d * k → d ≤ 1
divides_one d zero e = absurd (omega arith)
divides_one d (suc k) e = omega arith

pub in_range : (x : ℕ) → x ≤ 3 → (neg_ℤ (pos (2 ^ 26)) ≤ℤ pos x) × (pos x ≤ℤ pos (2 ^ 26))
in_range x h = (omega (arith, ints), omega (arith, ints))
