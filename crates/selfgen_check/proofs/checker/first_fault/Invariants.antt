use Rattle.std.proofs.Common.{ℕ, ◌<◌, length}
use Rattle.game_model.specs.SelfGeneration.{entries_of}
use Rattle.selfgen_check.specs.Faults.{AreGenerated}
use Rattle.selfgen_check.specs.Promises.{correspondence_of}
use Rattle.selfgen_check.proofs.checker.first_fault.Given as goal

abbrev pub invariant-loop-s : goal.invariant-loop-s
invariant-loop-s l = (s : ℕ) → s < l.s → AreGenerated l.game (correspondence_of l.game l.corr) s (length (entries_of (correspondence_of l.game l.corr) s))
