use Rattle.std.specs.Prelude.{IfSome}
use Rattle.worker_pass.specs.Scratches.{HoldsAfter}
use Rattle.worker_pass.specs.declared.working.Worker.{Worker}
use Rattle.worker_pass.specs.Work.{Did, IsWorkerOf}
use Rattle.worker_pass.proofs.working.take_rows.Given as goal

abbrev pub invariant-loop-i : goal.invariant-loop-i
invariant-loop-i g l = record {
  worker : IsWorkerOf l.board l.worker;
  did : (w : Worker) → Did l.board.frame w l.fn.worker → Did l.board.frame w l.worker;
  held : IfSome l.held (HoldsAfter l.board.frame l.worker.scratch.levels l.worker.pass.seen);
}
