use Rattle.std.proofs.Common.{◌≡◌, All, vec_len}
use Rattle.schedule_core.specs.Frame.{IsFallen}
use Rattle.worker_pass.specs.Work.{IsWorkerOf}
use Rattle.worker_pass.proofs.sweeping.crew.Given as goal

abbrev pub invariant-loop-number : goal.invariant-loop-number
invariant-loop-number l = record {
  first : l.first.board ≡ l.board;
  fell : IsFallen l.owner.seen l.first.seen;
  workers : All (λ w. IsWorkerOf l.board w) l.workers.items;
  below : All (λ w. IsFallen l.owner.seen w.pass.seen) l.workers.items;
  len : vec_len l.workers ≡ l.number;
}
