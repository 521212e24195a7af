use Rattle.std.proofs.Common.{◌<◌, refl, arith}
use Rattle.std.proofs.lemmas.Bool.{false≢true}
use Rattle.hull_weights.specs.Cone.{IsArrow}
use Rattle.hull_weights.proofs.Averages.{each, hull_from_balance, separates_from_cone, separates-excludes}
use Rattle.hull_weights.proofs.fewer.is_in_hull.Goals as goal

pub widened-requires-clause-proper : goal.widened-requires-clause-proper
widened-requires-clause-proper c = c.loop-index.invariant.proper

pub widened-requires-clause-earlier : goal.widened-requires-clause-earlier
widened-requires-clause-earlier c =
    each (IsArrow c.args.points.now c.args.target c.loop-index.index) (λ arrow. arrow.index < c.arrow_to.result.index) c.loop-index.cone
    (λ arrow is. omega (arith, is.seen_already)) c.loop-index.invariant.arrows

pub returns-in-Balanced : goal.returns-in-Balanced
returns-in-Balanced c =
    let inside = hull_from_balance c.args.points.now c.args.target c.loop-index.index c.loop-index.cone c.arrow_to.result c.in-Balanced.field-0
    c.loop-index-test.true c.loop-index.invariant c.arrow_to.ensures.arrow c.in-Balanced.ensures in
    (λ yes. inside, λ _. refl)

pub returns : goal.returns
returns c =
    let separates = separates_from_cone c.args.points.now c.args.target c.normal-beside.result c.loop-index.cone c.loop-index.index (omega arith) c.loop-index.invariant c.normal-beside.ensures.behind in
    (λ yes. absurd (false≢true yes), λ inside. absurd (separates-excludes c.args.points.now c.args.target c.normal-beside.result separates inside))
