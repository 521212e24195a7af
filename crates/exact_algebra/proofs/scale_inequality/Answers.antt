use Rattle.exact_algebra.proofs.Order.{times_at_most, at_most_from_times, times_below}
use Rattle.exact_algebra.proofs.scale_inequality.Goals as goal

pub returns-clause-at_most : goal.returns-clause-at_most
returns-clause-at_most c = times_at_most c.args.factor c.args.low c.args.high

pub returns-clause-cancels : goal.returns-clause-cancels
returns-clause-cancels c = at_most_from_times c.args.factor c.args.low c.args.high

pub returns-clause-below : goal.returns-clause-below
returns-clause-below c = times_below c.args.factor c.args.low c.args.high
