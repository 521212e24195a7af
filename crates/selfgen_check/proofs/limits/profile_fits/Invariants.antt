use Rattle.std.proofs.Common.{ℕ, ◌<◌, ◌≤◌, ◌^◌}
use Rattle.std.specs.Prelude.{unsigned_abs, ◌*ℤ◌}
use Rattle.game_model.specs.Game.{payoff_at}
use Rattle.selfgen_check.proofs.limits.profile_fits.Given as goal

abbrev pub invariant-loop-i : goal.invariant-loop-i
invariant-loop-i l = (i : ℕ) → i < l.i → unsigned_abs (l.scale *ℤ payoff_at l.game l.s l.a i) ≤ 2 ^ 30
