use Rattle.std.proofs.Common.{◌≡◌, ◌≤◌, ◌*◌, ◌^◌, take}
use Rattle.std.specs.Int.RustNames.{unsigned_abs}
use Rattle.lp_cert.specs.Certificate.{side_sum}
use Rattle.lp_cert.proofs.certificates.sum_of_sides.Given as goal

abbrev pub invariant-loop-i : goal.invariant-loop-i
invariant-loop-i l = (l.sum ≡ side_sum l.rows (take l.i l.items)) × (unsigned_abs l.sum ≤ l.i * 2 ^ 84)
