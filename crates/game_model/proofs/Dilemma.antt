-- The prisoner's dilemma keeps the limits of a game.
use Rattle.std.proofs.Common.{ℕ, zero, suc, ◌^◌, ◌<◌, ◌≤◌, List, [], ◌∷◌, length, get_or, refl, arith, lit<, lit≤}
use Rattle.std.specs.Prelude.{ℤ, pos, ◌≤ℤ◌, neg_ℤ, slice_index}
use Rattle.std.proofs.lemmas.Int.{ints}
use Rattle.game_model.specs.Game.{counts}
use Rattle.game_model.specs.Parts.{KeepLimits}
use Rattle.game_model.specs.Worked.{prisoners}
use Rattle.game_model.proofs.Cases.{in_range, two_at, divides_one, below_one}

dilemma_payoffs : List ℤ
dilemma_payoffs = pos 2 ∷ pos 2 ∷ pos 3 ∷ pos 0 ∷ pos 0 ∷ pos 3 ∷ pos 1 ∷ pos 1 ∷ []

payoffs_within : (k : ℕ) → k < 8 → (neg_ℤ (pos (2 ^ 26)) ≤ℤ get_or dilemma_payoffs k (pos 0)) × (get_or dilemma_payoffs k (pos 0) ≤ℤ pos (2 ^ 26))
unfolding dilemma_payoffs
payoffs_within zero h = in_range 2 (lit≤ tt)
payoffs_within (suc zero) h = in_range 2 (lit≤ tt)
payoffs_within (suc (suc zero)) h = in_range 3 (lit≤ tt)
payoffs_within (suc (suc (suc zero))) h = in_range 0 (lit≤ tt)
payoffs_within (suc (suc (suc (suc zero)))) h = in_range 0 (lit≤ tt)
payoffs_within (suc (suc (suc (suc (suc zero))))) h = in_range 3 (lit≤ tt)
payoffs_within (suc (suc (suc (suc (suc (suc zero)))))) h = in_range 1 (lit≤ tt)
payoffs_within (suc (suc (suc (suc (suc (suc (suc zero))))))) h = in_range 1 (lit≤ tt)
payoffs_within (suc (suc (suc (suc (suc (suc (suc (suc k)))))))) h = absurd (omega arith)

pub dilemma_keeps_limits : KeepLimits (prisoners 1 2)
unfolding dilemma_payoffs
dilemma_keeps_limits = record {
  two_players = lit≤ tt;
  three_players = lit≤ tt;
  some_state = lit≤ tt;
  few_states = lit≤ tt;
  payoffs_listed = refl;
  next_listed = refl;
  some_strategy = λ s i hs hi. below_one (λ s. (i : ℕ) → i < length (counts (prisoners 1 2) s) → 1 ≤ slice_index (counts (prisoners 1 2) s) i) (two_at 2 (λ m. 1 ≤ m) (lit≤ tt)) s hs i hi;
  few_strategies = λ s i hs hi. below_one (λ s. (i : ℕ) → i < length (counts (prisoners 1 2) s) → slice_index (counts (prisoners 1 2) s) i ≤ 16) (two_at 2 (λ m. m ≤ 16) (lit≤ tt)) s hs i hi;
  payoffs_small = λ s k hs hk. below_one (λ s. (k : ℕ) → k < length (get_or (prisoners 1 2).payoffs s []) → (neg_ℤ (pos (2 ^ 26)) ≤ℤ get_or (get_or (prisoners 1 2).payoffs s []) k (pos 0)) × (get_or (get_or (prisoners 1 2).payoffs s []) k (pos 0) ≤ℤ pos (2 ^ 26))) payoffs_within s hs k hk;
  denominator_positive = omega (arith, ints);
  denominator_small = omega (arith, ints);
  discounts_listed = refl;
  discounts_positive = two_at 1 (λ p. 0 < p) (lit< tt);
  discounts_below = two_at 1 (λ p. p < 2) (lit< tt);
  q_small = lit≤ tt;
  lowest = λ d whole each. let e = each 0 (lit< tt) in divides_one d e.0 e.1;
}
