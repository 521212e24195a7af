use Rattle.std.proofs.Common.{ℕ, ◌<◌}
use Rattle.selfgen_check.specs.Claims.{set_of}
use Rattle.selfgen_check.specs.Parts.{Deviates, IsDeterred}
use Rattle.selfgen_check.proofs.claim.Claim.first_gain.Given as goal

abbrev pub invariant-loop-i : goal.invariant-loop-i
invariant-loop-i l = (j x : ℕ) → j < l.i → Deviates l.self.game.now l.self.state l.self.entry.now j x → IsDeterred l.self.game.now (set_of l.self) l.self.state l.self.entry.now j x
