use Rattle.std.proofs.Common.{ℕ, ◌<◌, get_or}
use Rattle.selfgen_check.proofs.sums.are_below.Given as goal

abbrev pub invariant-loop-k : goal.invariant-loop-k
invariant-loop-k l = (j : ℕ) → j < l.k → (get_or l.lottery j (0, 0)).0 < l.count
