use Rattle.exact_algebra.proofs.Sums.{weighted_at_most, weighted_at_least}
use Rattle.exact_algebra.proofs.bound_average.Goals as goal

pub returns-clause-at_most : goal.returns-clause-at_most
returns-clause-at_most g c = λ h k. weighted_at_most (λ x. x.0) (λ x. x.1) g.average.bound g.average.items h k

pub returns-clause-at_least : goal.returns-clause-at_least
returns-clause-at_least g c = λ h k. weighted_at_least (λ x. x.0) (λ x. x.1) g.average.bound g.average.items h k
