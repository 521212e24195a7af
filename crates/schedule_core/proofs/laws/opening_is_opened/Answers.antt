use Rattle.schedule_core.proofs.Opening.{opening_starts}
use Rattle.schedule_core.proofs.laws.opening_is_opened.Goals as goal

pub returns : goal.returns
returns c = opening_starts
