use Rattle.bound_laws.proofs.Operator.{next_is_below, iterate_is_below}
use Rattle.bound_laws.proofs.iterates_fall.Goals as goal

pub returns-clause-next : goal.returns-clause-next
returns-clause-next c = next_is_below

pub returns-clause-iterate : goal.returns-clause-iterate
returns-clause-iterate c = iterate_is_below
