use Rattle.std.proofs.Common.{◌≡◌, ℕ, ◌<◌, ◌≤◌, All, slice_index_or, vec_len}
use Rattle.schedule_core.specs.Frame.{IsFallen}
use Rattle.worker_pass.specs.declared.working.Worker.{Worker}
use Rattle.worker_pass.specs.Work.{IsWorkerOf}
use Rattle.worker_pass.proofs.joining.join_all.Given as goal

abbrev pub invariant-loop-i : goal.invariant-loop-i
invariant-loop-i l = record {
  owner : l.owner.board ≡ l.board;
  workers : All (λ w. IsWorkerOf l.board w) l.workers.items;
  len : vec_len l.workers ≡ vec_len l.fn.workers;
  done : (j : ℕ) (d : Worker) → (slice_index_or l.workers.items j d).done ≡ (slice_index_or l.fn.workers.items j d).done;
  fell : IsFallen l.fn.owner.seen l.owner.seen;
  notes : l.owner.notes ≡ l.fn.owner.notes;
  later : (j : ℕ) (d : Worker) → l.i ≤ j → slice_index_or l.workers.items j d ≡ slice_index_or l.fn.workers.items j d;
  taken : (j : ℕ) (d : Worker) → j < l.i → IsFallen (slice_index_or l.fn.workers.items j d).pass.seen l.owner.seen;
}
