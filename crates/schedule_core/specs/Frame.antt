-- What never changes in a run, and what is said of a level of a row.
use Rattle.std.specs.Prelude.{◌≡◌, ℕ, ◌*◌, ◌/◌, ◌%◌, ◌^◌, ◌<◌, ◌≤◌, List, [], ◌∷◌, length, slice_set, unsigned_abs}
use Rattle.direction_set.specs.DirectionTable.{DirectionTable}
use Rattle.game_model.specs.Game.{DynamicGame}
use Rattle.level_table.specs.declared.level.Level.{Level}
use Rattle.level_table.specs.declared.level.Level.TheVariants.{Empty}
use Rattle.level_table.specs.declared.reason.Note.{Note}
use Rattle.level_table.specs.Problem.{IsProblem, Problem, opening_level, problem_of}
use Rattle.level_table.specs.Levels.{Table, AtMost, Bounds, IsSmall, IsTableOf, level_at, levels_in, lesser}
use Rattle.level_table.specs.Notes.{Named, IsNote, levels_of}
use Rattle.level_table.specs.Operator.{IsRowLevel}
use Rattle.level_table.specs.Start.{IsAboveSupported, IsBetween, IsStart}
use Rattle.level_table.specs.Tables.{IsWhole}
use Rattle.bound_laws.specs.Laws.{HasBounds, HasKeptAbove}

-- the problem, and the table that the run starts from
pub record Frame : Type 0 where
  pub problem : Problem
  pub start : Table

-- the frame of a game, a table of directions, a grid and a start
abbrev pub frame_from : DynamicGame → DirectionTable → ℕ → Table → Frame
frame_from g d grid start = record { problem = problem_of g d grid; start = start }

abbrev pub rows_of : Frame → ℕ
rows_of f = f.start.states * f.start.directions

-- Row r is direction r % directions of state r / directions. The level is at least that of each table at most the start that is supported with slack 1.
abbrev pub IsAbove : Frame → ℕ → Level → Type 0
IsAbove f r l = IsAboveSupported f.problem (levels_in f.start) (r / f.start.directions) (r % f.start.directions) l

-- Empty, or between the negative of the opposite opening level and the level of the start
abbrev pub IsWithin : Frame → ℕ → Level → Type 0
IsWithin f r l = IsBetween f.problem (r % f.start.directions) l × AtMost l (level_at f.start r)

-- what holds of each word and of each seen level
pub record IsSound (f : Frame) (r : ℕ) (l : Level) : Type 0 where
  pub small : IsSmall l
  pub within : IsWithin f r l
  pub above : IsAbove f r l

-- the level bounds its state in its direction
abbrev pub BoundsRow : Frame → ℕ → Level → Type 0
BoundsRow f r l = Bounds f.problem (r / f.start.directions) (r % f.start.directions) l

-- each level of the table bounds
abbrev pub BoundsEach : Frame → Table → Type 0
BoundsEach f t = (r : ℕ) → r < rows_of f → BoundsRow f r (level_at t r)

-- the level is the row level of the table
abbrev pub IsRowLevelOf : Frame → Table → ℕ → Level → Type 0
IsRowLevelOf f t r l = IsRowLevel f.problem (levels_in t) (r / f.start.directions) (r % f.start.directions) l

-- the state of the row has a note
abbrev pub NamedRow : Frame → List Note → ℕ → Type 0
NamedRow f notes r = Named notes (r / f.start.directions)

-- each row that the table has Empty is of a state that has a note
abbrev pub NamesEmpty : Frame → List Note → Table → Type 0
NamesEmpty f notes t = (r : ℕ) → r < rows_of f → level_at t r ≡ Empty → NamedRow f notes r

-- the notes are right, and each level that they keep is at least that of every supported table at most the start
abbrev pub AreKept : Frame → List Note → Type 0
AreKept f notes = HasKeptAbove f.problem (levels_in f.start) notes

-- the note is right over the table, beside the notes
abbrev pub IsNoteOver : Frame → Table → List Note → Note → Type 0
IsNoteOver f t notes note = IsNote f.problem (levels_of (levels_in t)) notes note

-- the openings are within their limit
abbrev pub HasSmallOpenings : Frame → Type 0
HasSmallOpenings f = (k : ℕ) → k < f.start.directions → unsigned_abs (opening_level f.problem k) ≤ 2 ^ 50

-- A table with notes from which a run may start.
pub record IsOpened (f : Frame) (notes : List Note) : Type 0 where
  pub sizes : IsTableOf f.problem f.start
  pub start : IsStart f.problem (levels_in f.start) notes
  pub small : HasSmallOpenings f

-- what is known of the frame of a run
pub record IsFrame (f : Frame) : Type 0 where
  pub problem : IsProblem f.problem
  pub sizes : IsTableOf f.problem f.start
  pub whole : IsWhole f.start
  pub bounds : HasBounds f.problem (levels_in f.start)
  pub small : HasSmallOpenings f

-- a table with the rows of the start, each level sound
pub record IsSeen (f : Frame) (t : Table) : Type 0 where
  pub states_agree : t.states ≡ f.start.states
  pub directions_agree : t.directions ≡ f.start.directions
  pub one_each : length t.levels ≡ rows_of f
  pub sound : (r : ℕ) → r < rows_of f → IsSound f r (level_at t r)

-- the table with another level in a row
abbrev pub with_level : Table → ℕ → Level → Table
with_level t r l = record { states = t.states; directions = t.directions; levels = slice_set t.levels r l }

-- the lesser level in each row
abbrev pub lesser_each : List Level → List Level → List Level
lesser_each [] ms = []
lesser_each (l ∷ ls) [] = []
lesser_each (l ∷ ls) (m ∷ ms) = lesser l m ∷ lesser_each ls ms

abbrev pub lesser_table : Table → Table → Table
lesser_table t u = record { states = t.states; directions = t.directions; levels = lesser_each t.levels u.levels }

-- A table that has come down from another: the same rows, each level at most what it was.
pub record IsFallen (t u : Table) : Type 0 where
  pub states_agree : u.states ≡ t.states
  pub directions_agree : u.directions ≡ t.directions
  pub one_each : length u.levels ≡ length t.levels
  pub fell : (r : ℕ) → AtMost (level_at u r) (level_at t r)
