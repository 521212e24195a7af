-- A core state as it is kept: tables for the words and for what each worker has seen.
use Rattle.std.specs.Prelude.{ℕ, List, [], ◌∷◌, map, slice_index_or, true, false}
use Rattle.level_table.specs.declared.reason.Note.{Note}
use Rattle.level_table.specs.Levels.{Table}
use Rattle.level_table.specs.Problem.{Problem}
use Rattle.schedule_core.specs.Core.{Core, Reader}

abbrev pub other_reader : Table → Reader
other_reader t = record { seen = t; owner = false; ended = false }

abbrev no_table : Table
no_table = record { states = 0; directions = 0; levels = [] }

abbrev pub table_at : List Table → ℕ → Table
table_at ts w = slice_index_or ts w no_table

-- the workers who have seen these, the first of them the owner
abbrev pub readers_of : List Table → List Reader
readers_of [] = []
readers_of (t ∷ ts) = record { seen = t; owner = true; ended = false } ∷ map other_reader ts

abbrev pub core_of : Problem → Table → Table → List Table → List Note → Core
core_of p start words seen notes = record { frame = record { problem = p; start = start }; levels = words.levels; readers = readers_of seen; notes = notes }

-- the words as a table of levels
abbrev pub words_in : Core → Table
words_in c = record { states = c.frame.start.states; directions = c.frame.start.directions; levels = c.levels }
