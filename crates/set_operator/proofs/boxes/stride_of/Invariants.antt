use Rattle.std.proofs.Common.{◌≡◌, take}
use Rattle.game_model.specs.Game.{counts, profile_count}
use Rattle.set_operator.proofs.boxes.stride_of.Given as goal

abbrev pub invariant-loop-j : goal.invariant-loop-j
invariant-loop-j l = l.stride ≡ profile_count (take l.j (counts l.fn.game l.fn.s))
