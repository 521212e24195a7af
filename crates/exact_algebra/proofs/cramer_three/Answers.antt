use Rattle.exact_algebra.proofs.Cramer.{cramer}
use Rattle.exact_algebra.proofs.cramer_three.Goals as goal

pub returns : goal.returns
returns g c = cramer g.at.0 g.at.1 g.at.2 g.at.3 g.at.4 g.at.5
