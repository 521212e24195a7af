use Rattle.std.proofs.Common.{ℕ, ◌<◌, ◌≤◌, ◌^◌}
use Rattle.std.specs.Int.RustNames.{unsigned_abs}
use Rattle.lp_cert.specs.Program.{row_at}
use Rattle.lp_core.proofs.plane.are_small.Given as goal

abbrev pub invariant-loop-l : goal.invariant-loop-l
invariant-loop-l l = (i : ℕ) → i < l.l → unsigned_abs (row_at l.rows i).h ≤ 2 ^ 50
