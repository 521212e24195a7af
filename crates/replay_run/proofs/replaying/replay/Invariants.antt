use Rattle.std.proofs.Common.{◌≡◌, ◌+◌, ◌-◌, take, [], length}
use Rattle.level_table.specs.Notes.{HasRoomFor}
use Rattle.schedule_core.specs.Frame.{frame_from}
use Rattle.schedule_core.specs.Replays.{IsReplay}
use Rattle.schedule_core.specs.Runs.{started}
use Rattle.replay_run.specs.Ready.{IsReady}
use Rattle.replay_run.proofs.replaying.replay.Given as goal

abbrev pub invariant-loop-i : goal.invariant-loop-i
invariant-loop-i l = record {
  frame : l.core.frame ≡ frame_from l.fn.game l.fn.dirs l.fn.grid l.fn.opening;
  workers : length l.core.readers ≡ l.fn.schedule.workers;
  ready : IsReady l.core;
  replay : IsReplay (started (frame_from l.fn.game l.fn.dirs l.fn.grid l.fn.opening) (l.fn.schedule.workers - 1) []) (take l.i l.fn.schedule.moves) l.core;
  room : HasRoomFor l.fn.game (length l.scratch.reasons.list + l.scratch.reasons.spare);
}
