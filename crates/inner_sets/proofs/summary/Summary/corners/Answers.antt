use Rattle.std.proofs.Common.{List, ap, sym, subst}
use Rattle.std.specs.Prelude.{ℤ, ◌↔◌}
use Rattle.hull_weights.specs.Hull.{IsInHull}
use Rattle.inner_sets.specs.Summaries.{PointSummary}
use Rattle.inner_sets.proofs.summary.Summary.corners.Goals as goal

pub returns-clause-hull : goal.returns-clause-hull
returns-clause-hull c =
    subst (λ (ys : List (List ℤ)). (t : List ℤ) → IsInHull ys t ↔ IsInHull c.args.self.now.points t) (sym c.deref.ensures.value)
    (subst (λ (xs : List (List ℤ)). (t : List ℤ) → IsInHull c.self.inside.corners.items t ↔ IsInHull xs t) (ap (λ (y : PointSummary). y.points) c.self.view_is) c.self.invariant.same_hull)
