-- Runs: lists of events, notes and moves of passes from a start.
use Rattle.std.specs.Prelude.{ℕ, ◌<◌, List, [], ◌∷◌, true, false, zero, suc}
use Rattle.level_table.specs.declared.reason.Note.{Note}
use Rattle.level_table.specs.Levels.{Table, level_at}
use Rattle.schedule_core.specs.declared.event.Event.{Event}
use Rattle.schedule_core.specs.Frame.{Frame, BoundsRow, IsAbove, IsNoteOver, rows_of}
use Rattle.schedule_core.specs.Core.{Core, IsWorking, MayHappen, Reader, joined, noted, seen_by, split, stepped, word_in}

-- what may happen next
pub data Act : Type 0 where
  Happens : Event → Act
  Keeps : Note → Act
  Splits : ℕ → Act
  Joins : ℕ → Act

abbrev pub acted : Core → Act → Core
acted c (Act.Happens e) = stepped c e
acted c (Act.Keeps note) = noted c note
acted c (Act.Splits w) = split c w
acted c (Act.Joins w) = joined c w

abbrev pub MayAct : Core → Act → Type 0
MayAct c (Act.Happens e) = MayHappen c e
MayAct c (Act.Keeps note) = IsNoteOver c.frame (seen_by c 0) c.notes note
MayAct c (Act.Splits w) = IsWorking c w
MayAct c (Act.Joins w) = IsWorking c w × (0 < w)

-- the state after all of them in order
abbrev pub after : Core → List Act → Core
after c [] = c
after c (a ∷ acts) = after (acted c a) acts

-- each may be where it stands
abbrev pub MayRun : Core → List Act → Type 0
MayRun c [] = Unit {0}
MayRun c (a ∷ acts) = MayAct c a × MayRun (acted c a) acts

-- so many readers who have seen the table, the first of them the owner
abbrev pub others : Table → ℕ → List Reader
others t zero = []
others t (suc n) = record { seen = t; owner = false; ended = false } ∷ others t n

-- the state before the first event, with n workers beside the owner
abbrev pub started : Frame → ℕ → List Note → Core
started f n notes = record { frame = f; levels = f.start.levels; readers = record { seen = f.start; owner = true; ended = false } ∷ others f.start n; notes = notes }

-- Each word and each level that a worker who hasn't ended has seen is at least that of every supported table at most the start, and bounds.
pub record AllBound (c : Core) : Type 0 where
  pub words_above : (r : ℕ) → r < rows_of c.frame → IsAbove c.frame r (word_in c r)
  pub seen_above : (w r : ℕ) → IsWorking c w → r < rows_of c.frame → IsAbove c.frame r (level_at (seen_by c w) r)
  pub words_bound : (r : ℕ) → r < rows_of c.frame → BoundsRow c.frame r (word_in c r)
  pub seen_bounds : (w r : ℕ) → IsWorking c w → r < rows_of c.frame → BoundsRow c.frame r (level_at (seen_by c w) r)
