use Rattle.std.proofs.Common.{◌≡◌, List, sym, ap, subst, ◌∙◌, rules}
use Rattle.std.specs.Prelude.{ℤ}
use Rattle.game_model.specs.Game.{successor}
use Rattle.hull_weights.specs.Hull.{IsInHull, IsSmallPoint}
use Rattle.inner_sets.specs.Choice.{remainder}
use Rattle.inner_sets.specs.Summaries.{PointSummary, summary_at}
use Rattle.inner_sets.proofs.Hulls.{hull_small}
use Rattle.inner_sets.proofs.trial.Trial.continuation.Goals as goal

pub returns-then-not-is_small_point : goal.returns-then-not-is_small_point
returns-then-not-is_small_point c = λ inside.
    let target : List ℤ = remainder c.args.self.now.game.now c.args.self.now.n c.args.self.now.state c.args.self.now.profile c.args.point in
    let points : (summary_at c.args.self.now.summaries.now (successor c.args.self.now.game.now c.args.self.now.state c.args.self.now.profile)).points ≡ c.points-points.result.now =
    sym (c.points-points.ensures.points ∙ ap (λ (y : PointSummary). y.points) (c.summary-next.ensures ∙ ap (summary_at c.args.self.now.summaries.now) c.next.ensures)) in
    let small : IsSmallPoint target = hull_small c.points-points.result.now target c.points-points.ensures.small (subst (λ (xs : List (List ℤ)). IsInHull xs target) points inside) in
    let there : IsSmallPoint c.remainder-target.result = subst IsSmallPoint (sym c.remainder-target.ensures) small in
    let yes = c.is_small_point.ensures.1 there in
    absurd (search rules)
