use Rattle.std.proofs.Common.{◌≡◌, replicate}
use Rattle.schedule_core.proofs.state.copies.Given as goal

abbrev pub invariant-loop : goal.invariant-loop
invariant-loop l = l.copies.items ≡ replicate l.counter l.table
