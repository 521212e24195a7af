use Rattle.std.proofs.Common.{sym, subst}
use Rattle.hull_weights.specs.Hull.{IsInHull}
use Rattle.hull_weights.specs.SameHull.{AreIn}
use Rattle.hull_weights.proofs.Hulls.{contained_in, more, latest}
use Rattle.hull_weights.proofs.fewer.push_if_outside.Goals as goal

pub returns-in_ok-push-clause-keeps : goal.returns-in_ok-push-clause-keeps
returns-in_ok-push-clause-keeps c = subst (AreIn c.args.kept.now.items) (sym c.in_ok-push.ensures.items) (more c.args.kept.now.items c.args.point)

pub returns-in_ok-push-clause-has : goal.returns-in_ok-push-clause-has
returns-in_ok-push-clause-has c = subst (λ xs. IsInHull xs c.args.point) (sym c.in_ok-push.ensures.items) (latest c.args.kept.now.items c.args.point)

pub returns-else-not-is_in_hull-clause-keeps : goal.returns-else-not-is_in_hull-clause-keeps
returns-else-not-is_in_hull-clause-keeps c = contained_in c.args.kept.now.items
