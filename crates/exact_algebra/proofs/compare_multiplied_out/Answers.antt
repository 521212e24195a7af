use Rattle.exact_algebra.proofs.Normal.{ring}
use Rattle.exact_algebra.proofs.compare_multiplied_out.Goals as goal

pub returns : goal.returns
returns g c = λ h. ring g.sides.values g.sides.left g.sides.right h
