use Rattle.std.proofs.Common.{◌<◌, ◌≤◌, ℕ, get_or}
use Rattle.deviation_laws.specs.declared.plan.DevPlan.{Stop}
use Rattle.deviation_laws.specs.Plans.{depth_of}
use Rattle.deviation_laws.proofs.gains.+playing.Given as goal

abbrev pub invariant-play_at_most-loop-j : goal.invariant-play_at_most-loop-j
invariant-play_at_most-loop-j l = (k : ℕ) → k < l.j → depth_of (get_or l.plans k Stop) ≤ l.periods
