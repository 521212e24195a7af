use Rattle.std.proofs.Common.{ℕ, ◌<◌, get_or}
use Rattle.game_model.specs.Game.{counts}
use Rattle.selfgen_check.proofs.sums.is_profile.Given as goal

abbrev pub invariant-loop-i : goal.invariant-loop-i
invariant-loop-i l = (k : ℕ) → k < l.i → get_or l.profile k 0 < get_or (counts l.game l.s) k 0
