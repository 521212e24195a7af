-- The games of the tests keep the limits.
use Rattle.std.proofs.Common.{ℕ, zero, suc, ◌<◌, ◌≤◌, ◌^◌, [], ◌∷◌, length, get_or, refl, arith, lit<, lit≤, neg_ℤ, pos, ◌≤ℤ◌}
use Rattle.std.specs.Prelude.{slice_index}
use Rattle.std.proofs.lemmas.Int.{ints}
use Rattle.game_model.specs.Game.{counts}
use Rattle.game_model.specs.Parts.{KeepLimits}
use Rattle.game_model.proofs.Cases.{in_range, two_at, divides_one, below_one}
use Rattle.level_table.specs.Worked.{one_profile}

one_payoffs : (k : ℕ) → k < 2 → (neg_ℤ (pos (2 ^ 26)) ≤ℤ get_or (pos 1 ∷ pos 2 ∷ []) k (pos 0)) × (get_or (pos 1 ∷ pos 2 ∷ []) k (pos 0) ≤ℤ pos (2 ^ 26))
one_payoffs zero h = in_range 1 (lit≤ tt)
one_payoffs (suc zero) h = in_range 2 (lit≤ tt)
one_payoffs (suc (suc k)) h = absurd (omega arith)

pub one_keeps_limits : KeepLimits one_profile
one_keeps_limits = record {
  two_players = lit≤ tt;
  three_players = lit≤ tt;
  some_state = lit≤ tt;
  few_states = lit≤ tt;
  payoffs_listed = refl;
  next_listed = refl;
  some_strategy = λ s i hs hi. below_one (λ s. (i : ℕ) → i < length (counts one_profile s) → 1 ≤ slice_index (counts one_profile s) i) (two_at 1 (λ m. 1 ≤ m) (lit≤ tt)) s hs i hi;
  few_strategies = λ s i hs hi. below_one (λ s. (i : ℕ) → i < length (counts one_profile s) → slice_index (counts one_profile s) i ≤ 16) (two_at 1 (λ m. m ≤ 16) (lit≤ tt)) s hs i hi;
  payoffs_small = λ s k hs hk. below_one (λ s. (k : ℕ) → k < length (get_or one_profile.payoffs s []) → (neg_ℤ (pos (2 ^ 26)) ≤ℤ get_or (get_or one_profile.payoffs s []) k (pos 0)) × (get_or (get_or one_profile.payoffs s []) k (pos 0) ≤ℤ pos (2 ^ 26))) one_payoffs s hs k hk;
  denominator_positive = omega (arith, ints);
  denominator_small = omega (arith, ints);
  discounts_listed = refl;
  discounts_positive = two_at 1 (λ p. 0 < p) (lit< tt);
  discounts_below = two_at 1 (λ p. p < 2) (lit< tt);
  q_small = lit≤ tt;
  lowest = λ d whole each. let e = each 0 (lit< tt) in divides_one d e.0 e.1;
}
