use Rattle.std.proofs.Common.{ℕ, ◌<◌}
use Rattle.selfgen_check.specs.Claims.{set_of}
use Rattle.selfgen_check.specs.Parts.{Deviates, IsDeterred}
use Rattle.selfgen_check.proofs.claim.Claim.first_gain_of.Given as goal

abbrev pub invariant-loop-b : goal.invariant-loop-b
invariant-loop-b l = (x : ℕ) → x < l.b → Deviates l.self.game.now l.self.state l.self.entry.now l.i x → IsDeterred l.self.game.now (set_of l.self) l.self.state l.self.entry.now l.i x
