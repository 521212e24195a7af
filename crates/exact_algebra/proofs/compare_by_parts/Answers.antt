use Rattle.exact_algebra.proofs.Poly.{same, at_most, below}
use Rattle.exact_algebra.proofs.compare_by_parts.Goals as goal

pub returns-clause-same : goal.returns-clause-same
returns-clause-same g c = same g.sides.values g.sides.left g.sides.right

pub returns-clause-at_most : goal.returns-clause-at_most
returns-clause-at_most g c = at_most g.sides.values g.sides.left g.sides.right

pub returns-clause-below : goal.returns-clause-below
returns-clause-below g c = below g.sides.values g.sides.left g.sides.right
