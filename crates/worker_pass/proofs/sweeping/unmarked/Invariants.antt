use Rattle.std.proofs.Common.{◌≡◌, length}
use Rattle.worker_pass.proofs.sweeping.unmarked.Given as goal

abbrev pub invariant-loop : goal.invariant-loop
invariant-loop l = length l.marks ≡ l.counter
