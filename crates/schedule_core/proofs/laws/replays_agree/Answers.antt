use Rattle.schedule_core.proofs.Replays.{replays_from_one}
use Rattle.schedule_core.proofs.laws.replays_agree.Goals as goal

pub returns : goal.returns
returns c = replays_from_one
