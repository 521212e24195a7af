use Rattle.std.proofs.Common.{◌≡◌, take}
use Rattle.selfgen_check.proofs.measures.same_lottery.Given as goal

abbrev pub invariant-loop-i : goal.invariant-loop-i
invariant-loop-i l = l.copy ≡ take l.i l.lottery
