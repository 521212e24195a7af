use Rattle.dyn_text.proofs.assembling.one_build_fault.Goals as goal
use Rattle.dyn_text.proofs.Unique.{one_fault}

pub returns : goal.returns
returns c = one_fault
