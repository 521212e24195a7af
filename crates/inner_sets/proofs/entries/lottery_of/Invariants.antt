use Rattle.std.proofs.Common.{◌≡◌, take}
use Rattle.inner_sets.specs.Built.{outcomes_of}
use Rattle.inner_sets.proofs.entries.lottery_of.Given as goal

abbrev pub invariant-loop-k : goal.invariant-loop-k
invariant-loop-k l = l.lottery ≡ outcomes_of (take l.k l.weights)
