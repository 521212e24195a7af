use Rattle.std.proofs.Common.{◌≡◌, ◌≤◌, ◌*◌, ◌^◌, take}
use Rattle.std.specs.Int.RustNames.{unsigned_abs}
use Rattle.lp_cert.specs.Certificate.{entry_sum}
use Rattle.lp_cert.proofs.certificates.sum_of_entries.Given as goal

abbrev pub invariant-loop-i : goal.invariant-loop-i
invariant-loop-i l = (l.sum ≡ entry_sum l.rows (take l.i l.items) l.axis) × (unsigned_abs l.sum ≤ l.i * 2 ^ 22)
