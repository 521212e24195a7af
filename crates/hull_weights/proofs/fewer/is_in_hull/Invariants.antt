use Rattle.hull_weights.specs.Cone.{Spans}
use Rattle.hull_weights.proofs.fewer.is_in_hull.Given as goal

abbrev pub invariant-loop-index : goal.invariant-loop-index
invariant-loop-index l = Spans l.points l.target l.index l.cone
