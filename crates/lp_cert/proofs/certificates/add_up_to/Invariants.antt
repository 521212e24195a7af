use Rattle.std.proofs.Common.{◌≡◌, ℕ, ◌<◌}
use Rattle.lp_cert.specs.Program.{entry}
use Rattle.lp_cert.specs.Certificate.{entry_sum}
use Rattle.lp_cert.proofs.certificates.add_up_to.Given as goal

abbrev pub invariant-loop-axis : goal.invariant-loop-axis
invariant-loop-axis l = (k : ℕ) → k < l.axis → entry_sum l.rows l.items k ≡ entry l.wanted k
