use Rattle.std.proofs.Common.{ℕ, ◌<◌}
use Rattle.selfgen_check.specs.Claims.{set_of}
use Rattle.selfgen_check.specs.Parts.{IsPunished}
use Rattle.selfgen_check.proofs.claim.Claim.are_punished.Given as goal

abbrev pub invariant-loop-i : goal.invariant-loop-i
invariant-loop-i l = (j : ℕ) → j < l.i → IsPunished l.self.game.now (set_of l.self) l.self.state l.self.entry.now j
