-- What contracts see of a board, a pass and the owner, and which event of the core a call is.
use Rattle.std.specs.Prelude.{◌≡◌, ℕ, List, [], ◌∷◌, ◌++◌, map, ℤ}
use Rattle.level_table.specs.declared.level.Level.{Level}
use Rattle.level_table.specs.declared.reason.Note.{Note}
use Rattle.level_table.specs.Levels.{Table}
use Rattle.level_table.specs.Tables.{kept_word}
use Rattle.atomic_table.specs.Seated.{TableId}
use Rattle.schedule_core.specs.declared.event.Event.{Event}
use Rattle.schedule_core.specs.declared.event.Event.TheVariants as events
use Rattle.schedule_core.specs.Frame.{Frame}
use Rattle.schedule_core.specs.Core.{AreValid, Core, IsValid, MayHappen, Reader, seen_by, stepped, word_in}

-- which board it is
pub record BoardId : Type 0 where
  pub table : TableId
  pub frame : Frame

-- what contracts see of a pass: its board, the levels that it has last seen, and the number that it has last drawn
pub record PassView : Type 0 where
  pub board : BoardId
  pub seen : Table
  pub drawn : ℕ

-- what contracts see of the owner
pub record OwnerView : Type 0 where
  pub board : BoardId
  pub seen : Table
  pub drawn : ℕ
  pub notes : List Note

-- the words that keep these levels, with the claim word behind them
abbrev pub words_of : List Level → ℕ → List ℕ
words_of levels claim = map kept_word levels ++ claim ∷ []

-- There was a core state with valid words and workers in which some worker had seen the table `old`, and the word of row r was the level. The event of the worker could happen, and then the worker has seen the table `new`.
pub record IsEvent (f : Frame) (event : ℕ → Event) (r : ℕ) (old : Table) (level : Level) (new : Table) : Type 0 where
  pub state : Core
  pub worker : ℕ
  pub frame : state.frame ≡ f
  pub valid : AreValid (λ (v : Reader). v) state.frame state.levels state.readers
  pub before : seen_by state worker ≡ old
  pub word : word_in state r ≡ level
  pub may : MayHappen state (event worker)
  pub then : seen_by (stepped state (event worker)) worker ≡ new

-- a worker loaded row r and found the level
abbrev pub IsLoad : Frame → ℕ → Table → Level → Table → Type 0
IsLoad f r old level new = IsEvent f (λ w. events.Load w r) r old level new

-- a worker lowered row r to x and found the level
abbrev pub IsLower : Frame → ℕ → ℤ → Table → Level → Table → Type 0
IsLower f r x old level new = IsEvent f (λ w. events.Lower w r x) r old level new

-- the owner cleared row r and found the level
abbrev pub IsClear : Frame → ℕ → Table → Level → Table → Type 0
IsClear f r old level new = IsEvent f (λ w. events.Clear r) r old level new

-- There is a valid core state whose owner has seen this and has these notes.
pub record HasValidState (f : Frame) (o : OwnerView) : Type 0 where
  pub state : Core
  pub frame : state.frame ≡ f
  pub valid : IsValid state
  pub seen : seen_by state 0 ≡ o.seen
  pub notes : state.notes ≡ o.notes
