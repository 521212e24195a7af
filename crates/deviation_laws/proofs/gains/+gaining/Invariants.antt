use Rattle.selfgen_check.specs.Promises.{correspondence_of}
use Rattle.deviation_laws.proofs.Periods.{Goes}
use Rattle.deviation_laws.proofs.gains.+gaining.Given as goal

abbrev pub invariant-average_of-loop-j : goal.invariant-average_of-loop-j
invariant-average_of-loop-j l = Goes l.set.game (correspondence_of l.set.game l.set.corr) l.player l.depth l.next l.outcomes l.plans l.sum l.j
