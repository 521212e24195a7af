use Rattle.schedule_core.proofs.Room.{fresh_room}
use Rattle.schedule_core.proofs.laws.fresh_notes_have_room.Goals as goal

pub returns : goal.returns
returns c = fresh_room
