use Rattle.std.proofs.Common.{◌≡◌, ◌<◌, ◌≤◌, length, All}
use Rattle.schedule_core.specs.Frame.{rows_of}
use Rattle.worker_pass.specs.Work.{IsWorkerOf}
use Rattle.worker_pass.proofs.working.draw_some.Given as goal

abbrev pub invariant-loop : goal.invariant-loop
invariant-loop l = record {
  worker : IsWorkerOf l.board l.worker;
  seen : l.worker.pass.seen ≡ l.fn.worker.pass.seen;
  done : l.worker.done ≡ l.fn.worker.done;
  rows : All (λ row. row < rows_of l.board.frame) l.rows;
  few : length l.rows ≤ l.counter;
}
