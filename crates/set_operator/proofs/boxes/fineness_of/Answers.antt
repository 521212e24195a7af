use Rattle.std.proofs.Math.Pow.{pow_mono}
use Rattle.set_operator.proofs.boxes.fineness_of.Goals as goal

pub returns-clause-small : goal.returns-clause-small
returns-clause-small c = pow_mono c.rules.ensures.grid
