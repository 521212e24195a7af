use Rattle.std.proofs.Common.{ℕ, ◌<◌}
use Rattle.selfgen_check.specs.Claims.{set_of}
use Rattle.selfgen_check.specs.Parts.{HasValue}
use Rattle.selfgen_check.proofs.claim.Claim.first_wrong_part.Given as goal

abbrev pub invariant-loop-i : goal.invariant-loop-i
invariant-loop-i l = (j : ℕ) → j < l.i → HasValue l.self.game.now (set_of l.self) l.self.state l.self.entry.now j
