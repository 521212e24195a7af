use Rattle.inner_sets.proofs.Held.{AreRenewedBelow}
use Rattle.inner_sets.proofs.summary.renew.Given as goal

abbrev pub invariant-loop-s : goal.invariant-loop-s
invariant-loop-s l = AreRenewedBelow l.game l.rows l.initial.summaries l.s l.summaries
