use Rattle.std.proofs.Common.{ℕ, ◌<◌, ◌≤◌, [], length, get_or}
use Rattle.game_model.specs.SelfGeneration.{no_entry}
use Rattle.selfgen_check.specs.Limits.{IsSmallEntry}
use Rattle.selfgen_check.proofs.limits.lists_fit.Given as goal

abbrev pub invariant-loop-s : goal.invariant-loop-s
invariant-loop-s l = (s : ℕ) → s < l.s → (length (get_or l.corr.entries s []) ≤ 65535) × ((k : ℕ) → k < length (get_or l.corr.entries s []) → IsSmallEntry l.game (get_or (get_or l.corr.entries s []) k no_entry))
