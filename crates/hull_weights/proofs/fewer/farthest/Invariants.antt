use Rattle.std.proofs.Common.{◌<◌, length}
use Rattle.hull_weights.proofs.fewer.farthest.Given as goal

abbrev pub invariant-loop-index : goal.invariant-loop-index
invariant-loop-index l = l.best < length l.points
