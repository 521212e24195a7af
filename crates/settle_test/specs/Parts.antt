-- The part of the test that is of one state.
use Rattle.std.specs.Prelude.{◌≡◌, ℕ, ◌+◌, ◌*◌, ◌<◌, List, length, slice_index_or, None}
use Rattle.level_table.specs.Levels.{Table}
use Rattle.level_table.specs.Notes.{HasRoomFor}
use Rattle.level_table.specs.Problem.{Problem, direction_count}
use Rattle.settle_test.specs.declared.parts.Part.{Part}
use Rattle.settle_test.specs.declared.settle.RowVerdict.{RowVerdict}
use Rattle.settle_test.specs.declared.settle.RowVerdict.TheVariants as verdicts
use Rattle.settle_test.specs.Verdicts.{IsRowVerdict}

abbrev pub nothing_found : RowVerdict
nothing_found = verdicts.Fine None

-- room for any state, and a place for each direction
pub record IsRoomy (p : Problem) (part : Part) : Type 0 where
  pub room : HasRoomFor p.game part.prepared.room
  pub places : length part.rows ≡ 32

-- what is found of each row of the state is the test's
pub record IsTested (p : Problem) (t : Table) (slack s : ℕ) (part : Part) : Type 0 where
  pub places : length part.rows ≡ 32
  pub rows : (k : ℕ) → k < direction_count p → IsRowVerdict p t slack (s * direction_count p + k) (slice_index_or part.rows k nothing_found)

-- the same of each state
abbrev pub AreTested : Problem → Table → ℕ → List Part → Type 0
AreTested p t slack parts = (s : ℕ) (d : Part) → s < length parts → IsTested p t slack s (slice_index_or parts s d)
