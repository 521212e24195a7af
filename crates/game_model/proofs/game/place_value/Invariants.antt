use Rattle.std.proofs.Common.{◌≡◌, take}
use Rattle.game_model.specs.Game.{profile_count}
use Rattle.game_model.proofs.game.place_value.Given as goal

abbrev pub invariant-loop-size : goal.invariant-loop-size
invariant-loop-size l = l.step ≡ profile_count (take l.size-index l.size-items)
