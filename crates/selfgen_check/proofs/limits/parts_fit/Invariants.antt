use Rattle.std.proofs.Common.{ℕ, ◌<◌, ◌≤◌, ◌^◌}
use Rattle.std.specs.Prelude.{unsigned_abs}
use Rattle.game_model.specs.SelfGeneration.{part}
use Rattle.selfgen_check.proofs.limits.parts_fit.Given as goal

abbrev pub invariant-loop-i : goal.invariant-loop-i
invariant-loop-i l = (k : ℕ) → k < l.i → unsigned_abs (part l.entry.point k) ≤ 2 ^ 30
