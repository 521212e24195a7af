use Rattle.std.proofs.Common.{◌≡◌, List, sym, ap, subst, ◌∙◌}
use Rattle.std.specs.Prelude.{ℤ}
use Rattle.std.proofs.lemmas.Bool.{false≢true}
use Rattle.game_model.specs.Game.{successor}
use Rattle.hull_weights.specs.Hull.{IsInHull}
use Rattle.inner_sets.specs.Summaries.{PointSummary, summary_at}
use Rattle.inner_sets.proofs.Hulls.{hull_small}
use Rattle.inner_sets.proofs.trial.Trial.continues.Goals as goal

pub returns-then-is_small_point : goal.returns-then-is_small_point
returns-then-is_small_point c =
    let target : List ℤ = c.remainder-target.result in
    let points : List (List ℤ) = (summary_at c.args.self.now.summaries.now (successor c.args.self.now.game.now c.args.self.now.state c.args.self.now.profile)).points in
    let same : c.summary-next.result.now.points ≡ points = ap (λ (y : PointSummary). y.points) (c.summary-next.ensures ∙ ap (summary_at c.args.self.now.summaries.now) c.next.ensures) in (
      λ yes. subst (IsInHull points) c.remainder-target.ensures (subst (λ (xs : List (List ℤ)). IsInHull xs target) same ((c.corners-corners.ensures.hull target).0 (c.is_in_hull.ensures.0 yes))),
      λ inside. c.is_in_hull.ensures.1 ((c.corners-corners.ensures.hull target).1 (subst (λ (xs : List (List ℤ)). IsInHull xs target) (sym same) (subst (IsInHull points) (sym c.remainder-target.ensures) inside))),
    )

pub returns-else-is_small_point : goal.returns-else-is_small_point
returns-else-is_small_point c =
    let target : List ℤ = c.remainder-target.result in
    let points : List (List ℤ) = (summary_at c.args.self.now.summaries.now (successor c.args.self.now.game.now c.args.self.now.state c.args.self.now.profile)).points in
    let same : c.summary-next.result.now.points ≡ points = ap (λ (y : PointSummary). y.points) (c.summary-next.ensures ∙ ap (summary_at c.args.self.now.summaries.now) c.next.ensures) in (
      λ yes. absurd (false≢true (sym c.if-is_small_point.false ∙ yes)),
      λ inside. c.is_small_point.ensures.1 (hull_small c.corners-corners.result.now target c.corners-corners.ensures.small
          ((c.corners-corners.ensures.hull target).1 (subst (λ (xs : List (List ℤ)). IsInHull xs target) (sym same) (subst (IsInHull points) (sym c.remainder-target.ensures) inside)))),
    )
