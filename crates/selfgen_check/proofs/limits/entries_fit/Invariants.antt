use Rattle.std.proofs.Common.{ℕ, ◌<◌, get_or}
use Rattle.game_model.specs.SelfGeneration.{no_entry}
use Rattle.selfgen_check.specs.Limits.{IsSmallEntry}
use Rattle.selfgen_check.proofs.limits.entries_fit.Given as goal

abbrev pub invariant-loop-k : goal.invariant-loop-k
invariant-loop-k l = (k : ℕ) → k < l.k → IsSmallEntry l.game (get_or l.entries k no_entry)
