-- Room for a note of each state that has none.
use Rattle.std.specs.Prelude.{ℕ, zero, suc, ◌+◌, ◌≤◌, List, [], ◌∷◌, Bool, false, ◌==◌, ◌||◌, if◌then◌else◌}
use Rattle.game_model.specs.Game.{DynamicGame, states}
use Rattle.level_table.specs.declared.reason.Note.{Note}
use Rattle.level_table.specs.Notes.{HasRoomFor, NoteList}

-- whether one of the notes is of state t
abbrev pub names : List Note → ℕ → Bool
names [] t = false
names (note ∷ notes) t = (note.state == t) || names notes t

-- how many of the first n states have no note
abbrev pub unnamed : List Note → ℕ → ℕ
unnamed notes zero = 0
unnamed notes (suc n) = (if names notes n then 0 else 1) + unnamed notes n

-- For each state of the game without a note there is a free place, and a spare list that has room for the reasons of any state.
pub record HasRoom (g : DynamicGame) (notes : NoteList) : Type 0 where
  pub free : unnamed notes.list (states g) ≤ notes.spare
  pub each : HasRoomFor g notes.each
