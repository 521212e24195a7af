-- Sums over a lottery, outcome by outcome, and their sizes.
use Rattle.std.proofs.Common.{◌≡◌, ℕ, zero, suc, ◌+◌, ◌*◌, ◌^◌, ◌<◌, ◌≤◌, List, [], ◌∷◌, length, get_or, take, arith, add-one}
use Rattle.std.specs.Prelude.{ℤ, pos, ◌+ℤ◌, ◌*ℤ◌, unsigned_abs}
use Rattle.std.proofs.lemmas.Int.{ints}
use Rattle.exact_algebra.proofs.Order.{abs_product, abs_sum}
use Rattle.game_model.specs.SelfGeneration.{Entry, no_entry, part, total_weight, weighted_part}

total_suc : (os : List (ℕ × ℕ)) (k : ℕ) → k < length os → total_weight (take (suc k) os) ≡ total_weight (take k os) + (get_or os k (0, 0)).1
total_suc [] k h = absurd (omega arith)
total_suc (o ∷ os) zero h = omega arith
total_suc (o ∷ os) (suc k) h = omega (arith, total_suc os k (omega arith))

pub total_step : (os : List (ℕ × ℕ)) (k : ℕ) → k < length os → total_weight (take (k + 1) os) ≡ total_weight (take k os) + (get_or os k (0, 0)).1
total_step os k h = rw add-one (total_suc os k h)

-- weight times part i of the outcome
abbrev pub outcome_part : List Entry → ℕ → ℕ × ℕ → ℤ
outcome_part es i o = pos o.1 *ℤ part (get_or es o.0 no_entry).point i

sum_suc : (es : List Entry) (i : ℕ) (os : List (ℕ × ℕ)) (k : ℕ) → k < length os →
    weighted_part es i (take (suc k) os) ≡ weighted_part es i (take k os) +ℤ outcome_part es i (get_or os k (0, 0))
sum_suc es i [] k h = absurd (omega arith)
sum_suc es i (o ∷ os) zero h = omega (arith, ints)
sum_suc es i (o ∷ os) (suc k) h =
    let e : weighted_part es i (take (suc k) os) ≡ weighted_part es i (take k os) +ℤ outcome_part es i (get_or os k (0, 0)) = sum_suc es i os k (omega arith) in
    omega (arith, ints)

pub sum_step : (es : List Entry) (i : ℕ) (os : List (ℕ × ℕ)) (k : ℕ) → k < length os →
    weighted_part es i (take (k + 1) os) ≡ weighted_part es i (take k os) +ℤ outcome_part es i (get_or os k (0, 0))
sum_step es i os k h = rw add-one (sum_suc es i os k h)

pub product_small : (w v : ℤ) → unsigned_abs w ≤ 2 ^ 83 → unsigned_abs v ≤ 2 ^ 30 → unsigned_abs (w *ℤ v) ≤ 2 ^ 113
product_small w v h k = abs_product w v (2 ^ 83) (2 ^ 30) h k

pub sum_small : (s t : ℤ) (k : ℕ) → unsigned_abs s ≤ k * 2 ^ 113 → unsigned_abs t ≤ 2 ^ 113 → unsigned_abs (s +ℤ t) ≤ (k + 1) * 2 ^ 113
sum_small s t k h j = let e : unsigned_abs (s +ℤ t) ≤ k * 2 ^ 113 + 2 ^ 113 = abs_sum s t (k * 2 ^ 113) (2 ^ 113) h j in omega arith
