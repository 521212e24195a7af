-- What holds of a core state between the moves of a replay.
use Rattle.std.specs.Prelude.{◌≡◌, ℕ, ◌+◌, ◌*◌, ◌<◌, length}
use Rattle.level_table.specs.declared.level.Level.TheVariants.{Empty}
use Rattle.level_table.specs.Levels.{level_at}
use Rattle.level_table.specs.Notes.{Named}
use Rattle.schedule_core.specs.Core.{Core, IsWorking, seen_by}

-- each state that has a note has an Empty level under what the owner has seen
abbrev pub AreClosed : Core → Type 0
AreClosed c = (s : ℕ) → Named c.notes s → (k : ℕ) × (k < c.frame.start.directions) × (level_at (seen_by c 0) (s * c.frame.start.directions + k) ≡ Empty)

pub record IsReady (c : Core) : Type 0 where
  pub some : 0 < length c.readers
  -- no worker has ended
  pub crew : (w : ℕ) → w < length c.readers → IsWorking c w
  pub closed : AreClosed c
