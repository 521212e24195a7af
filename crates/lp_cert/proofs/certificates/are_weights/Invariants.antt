use Rattle.std.proofs.Common.{ℕ, ◌<◌, get_or, length}
use Rattle.std.specs.Prelude.{ℤ, pos, ◌≤ℤ◌}
use Rattle.lp_cert.proofs.certificates.are_weights.Given as goal

abbrev pub invariant-loop-i : goal.invariant-loop-i
invariant-loop-i l = ((k : ℕ) (d : ℕ × ℤ) → k < l.i → (get_or l.items k d).0 < length l.rows.rows) × ((k : ℕ) (d : ℕ × ℤ) → k < l.i → pos 0 ≤ℤ (get_or l.items k d).1)
