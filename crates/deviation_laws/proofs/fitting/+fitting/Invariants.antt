use Rattle.std.proofs.Common.{◌<◌, ℕ, get_or}
use Rattle.selfgen_check.specs.Promises.{correspondence_of}
use Rattle.deviation_laws.specs.declared.plan.DevPlan.{Stop}
use Rattle.deviation_laws.specs.Plans.{Fits}
use Rattle.deviation_laws.proofs.fitting.+fitting.Given as goal

abbrev pub invariant-fit_in_turn-loop-j : goal.invariant-fit_in_turn-loop-j
invariant-fit_in_turn-loop-j l = (k : ℕ) → k < l.j → Fits l.set.game (correspondence_of l.set.game l.set.corr) l.player l.next (get_or l.outcomes k (0, 0)).0 (get_or l.plans k Stop)
