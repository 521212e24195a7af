-- The words of a text: a blank or a line feed ends one.
use Rattle.std.specs.Prelude.{ℕ, ◌==◌, ◌||◌, Bool, if◌then◌else◌, List, []}
use Rattle.std.specs.List.{slice_split}
use Rattle.report_lines.specs.declared.words.Words.TheInside.{Inside}

-- a blank, or a line feed
abbrev pub is_break : ℕ → Bool
is_break b = (b == 32) || (b == 10)

abbrev pub words_of : List ℕ → List (List ℕ)
words_of bytes = slice_split is_break bytes

-- the words that are left of a text
abbrev pub words_left : Inside → List (List ℕ)
words_left w = if w.done then [] else words_of w.rest.now
