-- The rule of the words, and what each step tells.
use Rattle.std.specs.Prelude.{◌≡◌, ℕ, ◌<◌, Bool, List, [], length, map, slice_index_or, slice_set, pos, true, false}
use mathlib.Core.Option.{some}
use lib.ListN.{get_elem?}
use Rattle.atomic_table.specs.Table.{State, Me, Step}
use Rattle.atomic_table.specs.Seated.{TableId}
use Rattle.game_model.specs.Game.{DynamicGame}
use Rattle.level_table.specs.declared.level.Level.{Level}
use Rattle.level_table.specs.declared.level.Level.TheVariants.{Empty, At}
use Rattle.level_table.specs.declared.reason.Note.{Note}
use Rattle.level_table.specs.Levels.{Table, AtMost, IsSmall, level_at, lesser}
use Rattle.level_table.specs.Problem.{problem_of}
use Rattle.level_table.specs.Tables.{kept_word}
use Rattle.schedule_core.specs.Frame.{Frame, AreKept, IsFrame, IsSeen, IsSound, NamedRow, lesser_table, rows_of, with_level}
use Rattle.schedule_core.specs.Core.{AreValid, Reader}
use Rattle.level_board.specs.declared.view.Key.{Key}
use Rattle.level_board.specs.declared.view.View.{View}
use Rattle.level_board.specs.Board.{PassView, OwnerView, words_of}

abbrev pub frame_of_key : Key → Frame
frame_of_key k = record { problem = problem_of k.game.value k.directions.value k.grid; start = k.start.value }

abbrev pub frame_of : View → Frame
frame_of v = record { problem = problem_of v.game v.directions v.grid; start = v.start }

-- what the core sees of a pass
abbrev pub reader_of : View → Reader
reader_of v = record { seen = v.seen; owner = v.owner; ended = v.spent }

abbrev pub is_empty : Level → Bool
is_empty Empty = true
is_empty (At x) = false

-- the rows that the owner has cleared before the first step: those that the start has Empty
abbrev pub empty_rows : List Level → List Bool
empty_rows levels = map is_empty levels

-- The owner has cleared each row whose word is Empty.
abbrev pub AreMarked : Frame → List Level → List View → Type 0
AreMarked f levels views = (id : ℕ) (v : View) → get_elem? views id ≡ some v → v.owner ≡ true → (r : ℕ) → r < rows_of f → slice_index_or levels r Empty ≡ Empty → slice_index_or v.cleared r false ≡ true

-- The rule of the words: the words are those of levels, and these and the passes are valid in the core.
pub record Keeps (f : Frame) (s : State (Unit {0}) View) : Type 0 where
  pub levels : List Level
  pub claim : ℕ
  pub words : s.words ≡ words_of levels claim
  pub valid : AreValid reader_of f levels s.views
  pub marked : AreMarked f levels s.views

-- A moment at which the reader was one of those of a valid state, and the word of row r was the level.
pub record Moment (f : Frame) (v : Reader) (r : ℕ) (level : Level) : Type 0 where
  pub levels : List Level
  pub readers : List Reader
  pub worker : ℕ
  pub valid : AreValid (λ (u : Reader). u) f levels readers
  pub here : get_elem? readers worker ≡ some v
  pub is : slice_index_or levels r Empty ≡ level

-- A step on row r found the word n, which is that of the level.
pub record Found (v : View) (r n : ℕ) : Type 0 where
  pub level : Level
  pub word : n ≡ kept_word level
  pub moment : Moment (frame_of v) (reader_of v) r level
  pub sound : IsSound (frame_of v) r level
  pub fell : AtMost level (level_at v.seen r)
  pub marked : v.owner ≡ true → level ≡ Empty → slice_index_or v.cleared r false ≡ true

-- the pass, which has seen another level in a row
abbrev pub seeing : View → ℕ → Level → View
seeing v r l = record v { seen = with_level v.seen r l }

-- the owner's pass, which has cleared a row
abbrev pub clearing : View → ℕ → View
clearing v r = record v { seen = with_level v.seen r Empty; cleared = slice_set v.cleared r true }

abbrev pub drawing : View → ℕ → View
drawing v n = record v { drawn = n }

-- A load of row r found the word n, and the view became w.
pub record Looked (v : View) (r n : ℕ) (w : View) : Type 0 where
  pub found : Found v r n
  pub seen : w ≡ seeing v r found.level

-- A fetch-min of row r by the word k found the word n.
pub record Lowered (v : View) (r k n : ℕ) (w : View) : Type 0 where
  pub found : Found v r n
  pub seen : (l : Level) → IsSmall l → k ≡ kept_word l → w ≡ seeing v r (lesser found.level l)

-- The owner's fetch-min of row r to Empty found the word n.
pub record Cleared (v : View) (r n : ℕ) (w : View) : Type 0 where
  pub found : Found v r n
  pub seen : w ≡ clearing v r

abbrev pub Looks : Step (Unit {0}) → Me (Unit {0}) View → ℕ → Me (Unit {0}) View → Type 0
Looks st m n m' = Looked m.0 st.word n m'.0 × (m'.1 ≡ m.1)

abbrev pub Lowers : Step (Unit {0}) → Me (Unit {0}) View → ℕ → Me (Unit {0}) View → Type 0
Lowers st m n m' = Lowered m.0 st.word st.first n m'.0 × (m'.1 ≡ m.1)

abbrev pub Clears : Step (Unit {0}) → Me (Unit {0}) View → ℕ → Me (Unit {0}) View → Type 0
Clears st m n m' = Cleared m.0 st.word n m'.0 × (m'.1 ≡ m.1)

abbrev pub Draws : Step (Unit {0}) → Me (Unit {0}) View → ℕ → Me (Unit {0}) View → Type 0
Draws st m n m' = (m'.0 ≡ drawing m.0 n) × (m'.1 ≡ m.1)

-- each row that was seen Empty was cleared
abbrev pub EmptyIsCleared : View → Type 0
EmptyIsCleared v = (r : ℕ) → r < rows_of (frame_of v) → level_at v.seen r ≡ Empty → slice_index_or v.cleared r false ≡ true

-- A load that only tells the owner that what it has seen Empty it has cleared.
abbrev pub Learns : Step (Unit {0}) → Me (Unit {0}) View → ℕ → Me (Unit {0}) View → Type 0
Learns st m n m' = (m' ≡ m) × (m.0.owner ≡ true → EmptyIsCleared m.0)

-- the first pass, which is the owner's
abbrev pub first_view : Key → View
first_view k = record {
  game = k.game.value;
  directions = k.directions.value;
  grid = k.grid;
  start = k.start.value;
  seen = k.start.value;
  owner = true;
  cleared = empty_rows k.start.value.levels;
  spent = false;
  drawn = 0;
}

-- a pass that has seen as much
abbrev pub copied : View → View
copied v = record v { owner = false; drawn = 0 }

abbrev pub joined : View → View → View
joined v w = record v { seen = lesser_table v.seen w.seen }

abbrev no_game : DynamicGame
no_game = record { players = 0; strategies = []; payoffs = []; next = []; denominator = pos 0; discounts = []; q = 0; base = 0 }

abbrev no_table : Table
no_table = record { states = 0; directions = 0; levels = [] }

-- what is left of a pass that was joined
abbrev pub spent_view : View
spent_view = record { game = no_game; directions = record { players = 0; vectors = [] }; grid = 0; start = no_table; seen = no_table; owner = false; cleared = []; spent = true; drawn = 0 }

-- what contracts see of a seat's view
abbrev pub view_of : TableId → View → PassView
view_of t v = record { board = record { table = t; frame = frame_of v }; seen = v.seen; drawn = v.drawn }

abbrev pub owner_of : TableId → View → List Note → OwnerView
owner_of t v notes = record { board = record { table = t; frame = frame_of v }; seen = v.seen; drawn = v.drawn; notes = notes }

-- what is always known of a pass
pub record IsPass (v : View) : Type 0 where
  pub frame : IsFrame (frame_of v)
  pub unspent : v.spent ≡ false
  pub seen : IsSeen (frame_of v) v.seen

-- What is always known of the owner: right notes, and one for the state of each row that was cleared.
pub record IsOwner (v : View) (notes : List Note) : Type 0 where
  pub pass : IsPass v
  pub owner : v.owner ≡ true
  pub kept : AreKept (frame_of v) notes
  pub marks : length v.cleared ≡ rows_of (frame_of v)
  pub marked : EmptyIsCleared v
  pub named : (r : ℕ) → r < rows_of (frame_of v) → slice_index_or v.cleared r false ≡ true → NamedRow (frame_of v) notes r
