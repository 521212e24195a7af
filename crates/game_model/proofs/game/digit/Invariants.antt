use Rattle.std.proofs.Common.{◌≡◌, ◌-◌, get_or, drop}
use Rattle.game_model.specs.Game.{strategies_of}
use Rattle.game_model.proofs.game.digit.Given as goal

-- the strategy that is sought stands in what is left of the number
abbrev pub invariant-loop-size : goal.invariant-loop-size
invariant-loop-size l = get_or (strategies_of (drop l.size-index l.sizes) l.rest) (l.i - l.size-index) 0 ≡ get_or (strategies_of l.sizes l.a) l.i 0
