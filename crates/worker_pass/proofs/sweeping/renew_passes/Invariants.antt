use Rattle.std.proofs.Common.{◌≡◌, ℕ, ◌<◌, All, slice_index_or, vec_len}
use Rattle.schedule_core.specs.Frame.{IsFallen}
use Rattle.worker_pass.specs.declared.working.Worker.{Worker}
use Rattle.worker_pass.specs.Work.{IsWorkerOf}
use Rattle.worker_pass.proofs.sweeping.renew_passes.Given as goal

abbrev pub invariant-loop-i : goal.invariant-loop-i
invariant-loop-i l = record {
  first : l.first.board ≡ l.board;
  workers : All (λ w. IsWorkerOf l.board w) l.workers.items;
  len : vec_len l.workers ≡ vec_len l.fn.workers;
  fell : IsFallen l.owner.seen l.first.seen;
  copied : (j : ℕ) (d : Worker) → j < l.i → IsFallen l.owner.seen (slice_index_or l.workers.items j d).pass.seen;
}
