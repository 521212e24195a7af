use Rattle.worker_pass.proofs.Works.{worked_split}
use Rattle.worker_pass.proofs.working.+crew.Goals as goal

pub work_each-returns : goal.work_each-returns
work_each-returns g t c = worked_split c.args.board.now c.args.workers.now _ _ _ _ c.split_at_mut-first.ensures.value c.work_both.ensures.first c.work_both.ensures.rest
