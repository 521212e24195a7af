use Rattle.selfgen_check.specs.Faults.{AreGenerated}
use Rattle.selfgen_check.specs.Promises.{correspondence_of}
use Rattle.selfgen_check.proofs.checker.first_fault_in.Given as goal

abbrev pub invariant-loop-k : goal.invariant-loop-k
invariant-loop-k l = AreGenerated l.game (correspondence_of l.game l.corr) l.s l.k
