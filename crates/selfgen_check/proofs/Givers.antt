-- The game of three who give or don't keeps the limits of a game.
use Rattle.std.proofs.Common.{◌≡◌, ℕ, zero, suc, ◌*◌, ◌^◌, ◌<◌, ◌≤◌, ◌&&◌, Bool, true, false, List, [], ◌∷◌, length, map, get_or, refl, sym, arith, lit<, lit≤}
use Rattle.std.specs.Prelude.{ℤ, pos, ◌≤ℤ◌, neg_ℤ, slice_index, nat_lt}
use Rattle.std.proofs.lemmas.Int.{ints}
use Rattle.std.proofs.lemmas.Bool.{true≢false}
use Rattle.std.proofs.lemmas.Bool.Decides.{nat_tests}
use Rattle.game_model.specs.Game.{counts}
use Rattle.game_model.specs.Parts.{KeepLimits}
use Rattle.selfgen_check.specs.TestGames.{givers}

abbrev IsPayoff : ℤ → Type 0
IsPayoff u = (neg_ℤ (pos (2 ^ 26)) ≤ℤ u) × (u ≤ℤ pos (2 ^ 26))

abbrev all_small : List ℕ → Bool
all_small [] = true
all_small (n ∷ ns) = nat_lt n 6 && all_small ns

both : (a b : Bool) → (a && b) ≡ true → (a ≡ true) × (b ≡ true)
both true b h = (refl, h)
both false b h = absurd (true≢false (sym h))

below : (n : ℕ) → nat_lt n 6 ≡ true → n < 6
below n h = grind (arith, nat_tests)

in_range : (n : ℕ) → n < 6 → IsPayoff (pos n)
in_range n h = (omega (arith, ints), omega (arith, ints))

small_at : (ns : List ℕ) → all_small ns ≡ true → (k : ℕ) → k < length (map pos ns) → IsPayoff (get_or (map pos ns) k (pos 0))
small_at [] h k l = absurd (omega arith)
small_at (n ∷ ns) h zero l = in_range n (below n (both (nat_lt n 6) (all_small ns) h).0)
small_at (n ∷ ns) h (suc k) l = small_at ns (both (nat_lt n 6) (all_small ns) h).1 k (omega arith)

three_at : (x : ℕ) (P : ℕ → Type 0) → P x → (i : ℕ) → i < 3 → P (get_or (x ∷ x ∷ x ∷ []) i 0)
three_at x P a zero h = a
three_at x P a (suc zero) h = a
three_at x P a (suc (suc zero)) h = a
three_at x P a (suc (suc (suc i))) h = absurd (omega arith)

divides_one : (d k : ℕ) → 1 ≡ d * k → d ≤ 1
divides_one d zero e = absurd (omega arith)
divides_one d (suc k) e = omega arith

one_state : (P : ℕ → Type 0) → P 0 → (s : ℕ) → s < 1 → P s
one_state P a zero h = a
one_state P a (suc s) h = absurd (omega arith)

pub givers_keep_limits : KeepLimits givers
givers_keep_limits = record {
  two_players = lit≤ tt;
  three_players = lit≤ tt;
  some_state = lit≤ tt;
  few_states = lit≤ tt;
  payoffs_listed = refl;
  next_listed = refl;
  some_strategy = λ s i hs hi. one_state (λ s. (i : ℕ) → i < length (counts givers s) → 1 ≤ slice_index (counts givers s) i) (three_at 2 (λ m. 1 ≤ m) (lit≤ tt)) s hs i hi;
  few_strategies = λ s i hs hi. one_state (λ s. (i : ℕ) → i < length (counts givers s) → slice_index (counts givers s) i ≤ 16) (three_at 2 (λ m. m ≤ 16) (lit≤ tt)) s hs i hi;
  payoffs_small = λ s k hs hk. one_state (λ s. (k : ℕ) → k < length (get_or givers.payoffs s []) → IsPayoff (get_or (get_or givers.payoffs s []) k (pos 0))) (small_at (4 ∷ 4 ∷ 4 ∷ 5 ∷ 2 ∷ 2 ∷ 2 ∷ 5 ∷ 2 ∷ 3 ∷ 3 ∷ 0 ∷ 2 ∷ 2 ∷ 5 ∷ 3 ∷ 0 ∷ 3 ∷ 0 ∷ 3 ∷ 3 ∷ 1 ∷ 1 ∷ 1 ∷ []) refl) s hs k hk;
  denominator_positive = omega (arith, ints);
  denominator_small = omega (arith, ints);
  discounts_listed = refl;
  discounts_positive = three_at 1 (λ p. 0 < p) (lit< tt);
  discounts_below = three_at 1 (λ p. p < 2) (lit< tt);
  q_small = lit≤ tt;
  lowest = λ d whole each. let e = each 0 (lit< tt) in divides_one d e.0 e.1;
}
