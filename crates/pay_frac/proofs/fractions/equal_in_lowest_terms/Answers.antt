use Rattle.pay_frac.proofs.Reduce.{lowest_same}
use Rattle.pay_frac.proofs.fractions.equal_in_lowest_terms.Goals as goal

pub returns : goal.returns
returns g c = lowest_same g.pair.first g.pair.second
