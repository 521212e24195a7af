-- The prisoner's dilemma keeps the limits of a game at a lower discount factor too.
use Rattle.std.proofs.Common.{◌≡◌, ℕ, zero, suc, ◌+◌, ◌*◌, ◌<◌, ◌≤◌, refl, arith, lit<, lit≤}
use Rattle.game_model.specs.Parts.{KeepLimits}
use Rattle.game_model.proofs.Cases.{two_at, divides_one}
use Rattle.game_model.proofs.Dilemma.{dilemma_keeps_limits}
use Rattle.selfgen_check.specs.TestGames.{dilemma}

one_apart : (d x y : ℕ) → d * x ≡ 1 + d * y → d ≤ 1
one_apart d x zero e = divides_one d x (omega (arith, e))
one_apart d zero (suc y) e = absurd (omega (arith, e))
one_apart d (suc x) (suc y) e = one_apart d x y (omega (arith, e))

-- 499 * 499 is 1 more than 249 * 1000
pub impatient_keeps_limits : KeepLimits (dilemma 499 1000)
impatient_keeps_limits = let half = dilemma_keeps_limits in record {
  two_players = half.two_players;
  three_players = half.three_players;
  some_state = half.some_state;
  few_states = half.few_states;
  payoffs_listed = half.payoffs_listed;
  next_listed = half.next_listed;
  some_strategy = half.some_strategy;
  few_strategies = half.few_strategies;
  payoffs_small = half.payoffs_small;
  denominator_positive = half.denominator_positive;
  denominator_small = half.denominator_small;
  discounts_listed = refl;
  discounts_positive = two_at 499 (λ p. 0 < p) (lit< tt);
  discounts_below = two_at 499 (λ p. p < 1000) (lit< tt);
  q_small = lit≤ tt;
  lowest = λ d whole each. let e = each 0 (lit< tt) in one_apart d (499 * e.0) (249 * whole.0) (omega (arith, e.1, whole.1));
}
