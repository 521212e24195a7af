use Rattle.std.proofs.Common.{[], arith}
use Rattle.std.proofs.lemmas.List.Elements.{Contains-get_or}
use Rattle.hull_weights.specs.Hull.{IsSmallPoint, point_at}
use Rattle.hull_weights.proofs.Hulls.{all_in, all_done, one_more_done, one_more_from}
use Rattle.hull_weights.proofs.fewer.outer_points.Goals as goal

pub push_if_outside-requires-clause-small : goal.push_if_outside-requires-clause-small
push_if_outside-requires-clause-small c = all_in IsSmallPoint c.loop-index.kept.items c.args.points.now c.loop-index.invariant.points c.requires.small

pub loop-index-preserved : goal.loop-index-preserved
loop-index-preserved c = record {
  points = one_more_from c.loop-index.kept.items c.push_if_outside.new.kept.items c.args.points.now (point_at c.args.points.now c.loop-index.index) c.in_ok-push_if_outside.ensures.only c.loop-index.invariant.points
      (Contains-get_or c.args.points.now c.loop-index.index [] c.loop-index-test.true);
  done = one_more_done c.loop-index.kept.items c.push_if_outside.new.kept.items c.args.points.now c.loop-index.index c.in_ok-push_if_outside.ensures.keeps c.loop-index.invariant.done c.in_ok-push_if_outside.ensures.has;
  few = omega (arith, c.in_ok-push_if_outside.ensures.few, c.loop-index.invariant.few);
}

pub returns-clause-hull : goal.returns-clause-hull
returns-clause-hull c = all_done c.loop-index.kept.items c.args.points.now c.loop-index.invariant.points (λ j below. c.loop-index.invariant.done j (omega arith))

pub returns-clause-small : goal.returns-clause-small
returns-clause-small c = all_in IsSmallPoint c.loop-index.kept.items c.args.points.now c.loop-index.invariant.points c.requires.small
