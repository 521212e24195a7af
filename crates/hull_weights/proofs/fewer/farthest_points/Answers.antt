use Rattle.std.proofs.Common.{[], arith}
use Rattle.std.proofs.lemmas.List.Elements.{Contains-get_or}
use Rattle.hull_weights.specs.Hull.{IsSmallPoint}
use Rattle.hull_weights.proofs.Hulls.{all_in, one_more_from}
use Rattle.hull_weights.proofs.fewer.farthest_points.Goals as goal

pub push_if_outside-requires-clause-small : goal.push_if_outside-requires-clause-small
push_if_outside-requires-clause-small c = all_in IsSmallPoint c.loop-k.kept.items c.args.points.now c.loop-k.invariant.points c.requires.small

pub loop-k-preserved : goal.loop-k-preserved
loop-k-preserved c = record {
  points = one_more_from c.loop-k.kept.items c.push_if_outside.new.kept.items c.args.points.now _ c.in_ok-push_if_outside.ensures.only c.loop-k.invariant.points
      (Contains-get_or c.args.points.now c.farthest.result [] c.farthest.ensures);
  few = omega (arith, c.in_ok-push_if_outside.ensures.few, c.loop-k.invariant.few);
}
