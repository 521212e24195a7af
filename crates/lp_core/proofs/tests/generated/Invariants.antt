use Rattle.std.proofs.Common.{◌≡◌, ◌-◌, length}
use Rattle.lp_core.proofs.tests.generated.Given as goal

abbrev pub invariant-loop-rows : goal.invariant-loop-rows
invariant-loop-rows l = l.rows.dimension ≡ l.dimension

abbrev pub decreases-loop-rows : goal.decreases-loop-rows
decreases-loop-rows l = l.count - length l.rows.rows
