-- What the moves of a schedule make of a core state, one after another.
use Rattle.std.specs.Prelude.{◌≡◌, ◌⊎◌, ℕ, ◌/◌, List, [], ◌∷◌, map}
use Rattle.level_table.specs.declared.level.Level.{Level}
use Rattle.level_table.specs.declared.level.Level.TheVariants.{Empty, At}
use Rattle.level_table.specs.declared.reason.Note.{Note}
use Rattle.schedule_core.specs.declared.moves.Move.{Move}
use Rattle.schedule_core.specs.declared.moves.Move.TheVariants.{Load, Lower, Clear}
use Rattle.schedule_core.specs.Frame.{IsNoteOver, IsRowLevelOf, NamedRow}
use Rattle.schedule_core.specs.Core.{Core, cleared, loaded, lowered, noted, seen_by}

-- nothing is admissible in the row's state under what the owner has seen
abbrev pub AdmitsNothing : Core → ℕ → Type 0
AdmitsNothing c r = IsRowLevelOf c.frame (seen_by c 0) r Empty

-- the row is lowered to a level, where that is a number
abbrev pub lowered_to : Core → ℕ → ℕ → Level → Core
lowered_to c w r Empty = c
lowered_to c w r (At x) = lowered c w r (At x)

-- a right note of the row's state is kept, and then the row is cleared
abbrev pub IsNamedAndCleared : Core → ℕ → Core → Type 0
IsNamedAndCleared c r d = (note : Note) × (note.state ≡ r / c.frame.start.directions) × IsNoteOver c.frame (seen_by c 0) c.notes note × (d ≡ cleared (noted c note) r)

-- What a move does. A load is the event. A row is lowered to the row level of what the worker has seen. The row of a state with a note is cleared; one of a state that admits nothing too, after its note was kept; else nothing changes.
abbrev pub IsMoved : Core → Move → Core → Type 0
IsMoved c (Load w r) d = d ≡ loaded c w r
IsMoved c (Lower w r) d = (l : Level) × IsRowLevelOf c.frame (seen_by c w) r l × (d ≡ lowered_to c w r l)
IsMoved c (Clear r) d =
    (NamedRow c.frame c.notes r × (d ≡ cleared c r))
    ⊎ (((NamedRow c.frame c.notes r → ⊥) × AdmitsNothing c r × IsNamedAndCleared c r d)
    ⊎ ((NamedRow c.frame c.notes r → ⊥) × (AdmitsNothing c r → ⊥) × (d ≡ c)))

-- the state after all moves in order
abbrev pub IsReplay : Core → List Move → Core → Type 0
IsReplay c [] d = d ≡ c
IsReplay c (m ∷ moves) d = (e : Core) × IsMoved c m e × IsReplay e moves d

-- the same words and workers, and notes of the same states in the same order; only their reasons may differ
pub record Agree (c d : Core) : Type 0 where
  pub frames : c.frame ≡ d.frame
  pub words : c.levels ≡ d.levels
  pub workers : c.readers ≡ d.readers
  pub named : map (λ (note : Note). note.state) c.notes ≡ map (λ (note : Note). note.state) d.notes
