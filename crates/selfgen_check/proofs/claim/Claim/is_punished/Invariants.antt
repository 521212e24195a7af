use Rattle.std.proofs.Common.{ℕ, ◌<◌}
use Rattle.selfgen_check.specs.Claims.{set_of}
use Rattle.selfgen_check.specs.Parts.{Deviates, reached_from}
use Rattle.game_model.specs.SelfGeneration.{punishment, entries_of}
use Rattle.std.proofs.Common.{length}
use Rattle.selfgen_check.proofs.claim.Claim.is_punished.Given as goal

abbrev pub invariant-loop-b : goal.invariant-loop-b
invariant-loop-b l = (x : ℕ) → x < l.b → Deviates l.self.game.now l.self.state l.self.entry.now l.i x → punishment l.self.game.now l.self.state l.self.entry.now l.i x < length (entries_of (set_of l.self) (reached_from l.self.game.now l.self.state l.self.entry.now l.i x))
