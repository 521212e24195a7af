use Rattle.exact_algebra.proofs.Quotients.{ceiling_at_most_each, ceiling_unique}
use Rattle.exact_algebra.proofs.round_up.Goals as goal

pub returns-clause-at_most : goal.returns-clause-at_most
returns-clause-at_most g c = ceiling_at_most_each g.at.num g.at.den g.at.rounded g.at.other

pub returns-clause-alone : goal.returns-clause-alone
returns-clause-alone g c = ceiling_unique g.at.num g.at.den g.at.rounded g.at.other
