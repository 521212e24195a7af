-- A core state: words, what each worker has seen, and notes. What makes it valid, and what each event, note and move of passes changes.
use Rattle.std.specs.Prelude.{◌≡◌, ℕ, ◌<◌, List, [], ◌∷◌, ◌++◌, length, slice_index_or, slice_set, Bool, true, false}
use mathlib.Core.Option.{some}
use lib.ListN.{get_elem?}
use Rattle.level_table.specs.declared.level.Level.{Level}
use Rattle.level_table.specs.declared.level.Level.TheVariants.{Empty, At}
use Rattle.level_table.specs.declared.reason.Note.{Note}
use Rattle.level_table.specs.Levels.{Table, AtMost, level_at, lesser}
use Rattle.schedule_core.specs.declared.event.Event.{Event}
use Rattle.schedule_core.specs.declared.event.Event.TheVariants as events
use Rattle.schedule_core.specs.Frame.{Frame, AreKept, IsRowLevelOf, IsSeen, IsSound, NamedRow, lesser_table, rows_of, with_level}

-- A worker: what it has seen, whether it is the owner, and whether a join has ended it.
pub record Reader : Type 0 where
  pub seen : Table
  pub owner : Bool
  pub ended : Bool

-- What holds of a worker that hasn't ended, beside the words: what it has seen is sound and at least the words, and a word is Empty only where the owner has seen Empty.
pub record FitsReader (f : Frame) (levels : List Level) (v : Reader) : Type 0 where
  pub seen : IsSeen f v.seen
  pub above : (r : ℕ) → r < rows_of f → AtMost (slice_index_or levels r Empty) (level_at v.seen r)
  pub owned : v.owner ≡ true → (r : ℕ) → r < rows_of f → slice_index_or levels r Empty ≡ Empty → level_at v.seen r ≡ Empty

-- Words and workers are valid. Stated over any views of which a reader can be told, so that shared words have it as their rule.
pub record AreValid {V : Type 0} (reader : V → Reader) (f : Frame) (levels : List Level) (views : List V) : Type 0 where
  pub one_each : length levels ≡ rows_of f
  pub sound : (r : ℕ) → r < rows_of f → IsSound f r (slice_index_or levels r Empty)
  pub fits : (id : ℕ) (v : V) → get_elem? views id ≡ some v → (reader v).ended ≡ false → FitsReader f levels (reader v)
  -- Worker 0 alone is the owner, and it never ends.
  pub one_owner : (id : ℕ) (v : V) → get_elem? views id ≡ some v → (reader v).owner ≡ true → id ≡ 0
  pub first : V
  pub first_is : get_elem? views 0 ≡ some first
  pub first_owns : (reader first).owner ≡ true
  pub first_stays : (reader first).ended ≡ false

pub record Core : Type 0 where
  pub frame : Frame
  pub levels : List Level
  pub readers : List Reader
  pub notes : List Note

-- The state is valid: its words and workers are, its notes are right, and each state where the owner has seen an Empty has one.
pub record IsValid (c : Core) : Type 0 where
  pub words : AreValid (λ (v : Reader). v) c.frame c.levels c.readers
  pub kept : AreKept c.frame c.notes
  pub named : (id : ℕ) (v : Reader) → get_elem? c.readers id ≡ some v → v.owner ≡ true → (r : ℕ) → r < rows_of c.frame → level_at v.seen r ≡ Empty → NamedRow c.frame c.notes r

abbrev pub no_reader : Reader
no_reader = record { seen = record { states = 0; directions = 0; levels = [] }; owner = false; ended = true }

abbrev pub reader_at : Core → ℕ → Reader
reader_at c w = slice_index_or c.readers w no_reader

-- what worker w has seen
abbrev pub seen_by : Core → ℕ → Table
seen_by c w = (reader_at c w).seen

abbrev pub word_in : Core → ℕ → Level
word_in c r = slice_index_or c.levels r Empty

-- the reader, who has seen another level in a row
abbrev pub sees : Reader → ℕ → Level → Reader
sees v r l = record v { seen = with_level v.seen r l }

-- Worker w loads row r.
abbrev pub loaded : Core → ℕ → ℕ → Core
loaded c w r = record c { readers = slice_set c.readers w (sees (reader_at c w) r (word_in c r)) }

-- The word of row r becomes the lesser of itself and the level, and worker w has seen it.
abbrev pub lowered : Core → ℕ → ℕ → Level → Core
lowered c w r l = record c {
  levels = slice_set c.levels r (lesser (word_in c r) l);
  readers = slice_set c.readers w (sees (reader_at c w) r (lesser (word_in c r) l));
}

-- The word of row r becomes Empty, and the owner has seen it.
abbrev pub cleared : Core → ℕ → Core
cleared c r = record c { levels = slice_set c.levels r Empty; readers = slice_set c.readers 0 (sees (reader_at c 0) r Empty) }

abbrev pub stepped : Core → Event → Core
stepped c (events.Load w r) = loaded c w r
stepped c (events.Lower w r x) = lowered c w r (At x)
stepped c (events.Clear r) = cleared c r

abbrev pub noted : Core → Note → Core
noted c note = record c { notes = c.notes ++ note ∷ [] }

-- a new worker, who has seen as much
abbrev pub copied : Reader → Reader
copied v = record v { owner = false }

-- Worker w loads row 0, and then a new worker has seen what w has seen.
abbrev pub split : Core → ℕ → Core
split c w = record (loaded c w 0) { readers = (loaded c w 0).readers ++ copied (reader_at (loaded c w 0) w) ∷ [] }

abbrev pub takes : Reader → Reader → Reader
takes v w = record v { seen = lesser_table v.seen w.seen }

abbrev pub ends : Reader → Reader
ends v = record v { ended = true }

-- The owner loads row 0, and has then seen the lesser of what it and worker w have seen in each row. Worker w has ended.
abbrev pub joined : Core → ℕ → Core
joined c w = record (loaded c 0 0) {
  readers = slice_set (slice_set (loaded c 0 0).readers 0 (takes (reader_at (loaded c 0 0) 0) (reader_at (loaded c 0 0) w))) w (ends (reader_at c w));
}

-- there is a worker w who hasn't ended
pub record IsWorking (c : Core) (w : ℕ) : Type 0 where
  pub there : w < length c.readers
  pub works : (reader_at c w).ended ≡ false

-- The event may happen: a row is lowered only to the row level of what the worker has seen, and cleared only where its state has a note.
abbrev pub MayHappen : Core → Event → Type 0
MayHappen c (events.Load w r) = IsWorking c w × (r < rows_of c.frame)
MayHappen c (events.Lower w r x) = IsWorking c w × (r < rows_of c.frame) × IsRowLevelOf c.frame (seen_by c w) r (At x)
MayHappen c (events.Clear r) = (r < rows_of c.frame) × NamedRow c.frame c.notes r
