use Rattle.std.proofs.Common.{ℕ, ◌<◌, ◌≤◌, ◌^◌}
use Rattle.std.specs.Prelude.{unsigned_abs, ◌*ℤ◌}
use Rattle.game_model.specs.Game.{counts, profile_count, payoff_at}
use Rattle.selfgen_check.proofs.limits.payoffs_fit.Given as goal

abbrev pub invariant-loop-s : goal.invariant-loop-s
invariant-loop-s l = (s a i : ℕ) → s < l.s → a < profile_count (counts l.game s) → i < l.game.players → unsigned_abs (l.scale *ℤ payoff_at l.game s a i) ≤ 2 ^ 30
