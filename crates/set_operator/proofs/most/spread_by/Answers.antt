use Rattle.set_operator.proofs.Mosts.{no_spread}
use Rattle.set_operator.proofs.most.spread_by.Goals as goal

pub returns-then-discounts-clause-most : goal.returns-then-discounts-clause-most
returns-then-discounts-clause-most c = no_spread c.args.p.now c.args.found.now c.args.dir c.args.discounts.least (c.requires.discounts.same c.if-discounts.true)
