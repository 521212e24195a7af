use Rattle.std.proofs.Common.{ℕ, ◌<◌}
use Rattle.worker_pass.specs.Work.{HasMarked}
use Rattle.worker_pass.proofs.joining.are_marked.Given as goal

abbrev pub invariant-loop-row : goal.invariant-loop-row
invariant-loop-row l = (r : ℕ) → r < l.row → HasMarked l.workers.items r
