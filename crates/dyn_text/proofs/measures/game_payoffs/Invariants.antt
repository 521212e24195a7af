use Rattle.std.proofs.Common.{◌≡◌, map, take}
use Rattle.std.specs.List.{All}
use Rattle.dyn_text.specs.Assembled.{units}
use Rattle.dyn_text.specs.BuildFaults.{IsSmallPayoff}
use Rattle.dyn_text.proofs.measures.game_payoffs.Given as goal

abbrev pub invariant-loop-k : goal.invariant-loop-k
invariant-loop-k l = (l.payoffs.items ≡ map (units l.unit) (take l.k l.game.payoffs)) × All (IsSmallPayoff l.unit) (take l.k l.game.payoffs)
