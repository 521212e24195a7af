use Rattle.exact_algebra.proofs.Extremes.{greatest_exists, least_bound_exists}
use Rattle.exact_algebra.proofs.bound_values.Goals as goal

pub returns-clause-greatest : goal.returns-clause-greatest
returns-clause-greatest g c = greatest_exists (λ x. x) g.at.first g.at.rest

pub returns-clause-least_bound : goal.returns-clause-least_bound
returns-clause-least_bound g c = least_bound_exists (λ x. x) g.at.unit g.at.first g.at.rest
