use Rattle.std.proofs.Common.{◌<◌, arith}
use Rattle.hull_weights.specs.Cone.{IsArrow}
use Rattle.hull_weights.proofs.Averages.{each, triangle_from_balance, separates_from_cone, separates-excludes}
use Rattle.hull_weights.proofs.triangle.Goals as goal

pub widened-requires-clause-proper : goal.widened-requires-clause-proper
widened-requires-clause-proper c = c.loop-index.invariant.proper

pub widened-requires-clause-earlier : goal.widened-requires-clause-earlier
widened-requires-clause-earlier c =
    each (IsArrow c.args.points.now c.args.target c.loop-index.index) (λ arrow. arrow.index < c.arrow_to.result.index) c.loop-index.cone
    (λ arrow is. omega (arith, is.seen_already)) c.loop-index.invariant.arrows

pub returns-in-Balanced-clause-weights : goal.returns-in-Balanced-clause-weights
returns-in-Balanced-clause-weights c =
    triangle_from_balance c.args.points.now c.args.target c.loop-index.index c.loop-index.cone c.arrow_to.result c.in-Balanced.balance c.weights_of.result
    c.loop-index-test.true c.loop-index.invariant c.arrow_to.ensures.arrow c.in-Balanced.ensures c.weights_of.ensures

pub returns-in-Balanced-clause-outside : goal.returns-in-Balanced-clause-outside
returns-in-Balanced-clause-outside c =
    let is_triangle = triangle_from_balance c.args.points.now c.args.target c.loop-index.index c.loop-index.cone c.arrow_to.result c.in-Balanced.balance c.weights_of.result
    c.loop-index-test.true c.loop-index.invariant c.arrow_to.ensures.arrow c.in-Balanced.ensures c.weights_of.ensures in
    (λ never. absurd never, λ none. none (c.weights_of.result, is_triangle.average))

pub returns-clause-normal : goal.returns-clause-normal
returns-clause-normal c =
    separates_from_cone c.args.points.now c.args.target c.normal.result c.loop-index.cone c.loop-index.index (omega arith) c.loop-index.invariant c.normal.ensures.behind

pub returns-clause-outside : goal.returns-clause-outside
returns-clause-outside c =
    let separates = separates_from_cone c.args.points.now c.args.target c.normal.result c.loop-index.cone c.loop-index.index (omega arith) c.loop-index.invariant c.normal.ensures.behind in
    (λ yes. separates-excludes c.args.points.now c.args.target c.normal.result separates, λ none. tt)
