use Rattle.std.proofs.Common.{◌+◌, ◌-◌, ◌*◌, length}
use Rattle.worker_pass.proofs.working.+crew.Given as goal

abbrev pub decreases-work_each : goal.decreases-work_each
decreases-work_each g l = 4 * length l.workers.now

abbrev pub decreases-work_both : goal.decreases-work_both
decreases-work_both g l = 4 * (length l.first.now + length l.rest.now) - 1

abbrev pub decreases-work_both-there : goal.decreases-work_both-there
decreases-work_both-there g l = 4 * length l.first.now + 1

abbrev pub decreases-work_both-here : goal.decreases-work_both-here
decreases-work_both-here g l = 4 * length l.rest.now + 1
