use Rattle.worker_pass.specs.Work.{Did, IsWorkerOf}
use Rattle.worker_pass.proofs.working.work.Given as goal

abbrev pub invariant-loop : goal.invariant-loop
invariant-loop g l = record {
  worker : IsWorkerOf l.board l.worker;
  did : Did l.board.frame l.fn.worker l.worker;
}
