use Rattle.std.proofs.Common.{◌≡◌, ℕ, ◌<◌, length, slice_index_or, false}
use Rattle.worker_pass.proofs.working.unmark.Given as goal

abbrev pub invariant-loop-row : goal.invariant-loop-row
invariant-loop-row l = record {
  same : length l.done ≡ length l.fn.done;
  none : (r : ℕ) → r < l.row → slice_index_or l.done r false ≡ false;
}
