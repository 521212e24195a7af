use Rattle.schedule_core.proofs.Replays.{replay_runs}
use Rattle.schedule_core.proofs.laws.replays_are_runs.Goals as goal

pub returns : goal.returns
returns c = replay_runs
