use Rattle.std.proofs.Common.{ℕ, ◌<◌, ◌≤◌, ◌^◌}
use Rattle.std.specs.Prelude.{unsigned_abs, ◌*ℤ◌}
use Rattle.game_model.specs.Game.{payoff_at}
use Rattle.selfgen_check.proofs.limits.state_fits.Given as goal

abbrev pub invariant-loop-a : goal.invariant-loop-a
invariant-loop-a l = (a i : ℕ) → a < l.a → i < l.game.players → unsigned_abs (l.scale *ℤ payoff_at l.game l.s a i) ≤ 2 ^ 30
