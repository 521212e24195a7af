-- The text of a replay.
use Rattle.std.specs.Prelude.{ℕ, ◌*◌, ◌/◌, ◌%◌, ◌++◌, List, [], ◌∷◌, codes, decimal}
use Rattle.level_table.specs.Levels.{Table, level_at}
use Rattle.report_text.specs.declared.replay.Replay.{Replay}
use Rattle.report_text.specs.ReportText.{level_word, line, notes_text, texts_below}

-- the state, the direction and the level of a row
abbrev pub table_line : Table → ℕ → List ℕ
table_line t row = line (codes "row") (decimal (row / t.directions) ∷ decimal (row % t.directions) ∷ level_word (level_at t row) ∷ [])

-- one line for each row
abbrev pub table_lines : Table → List ℕ
table_lines t = texts_below (table_line t) (t.states * t.directions)

-- The head, one line for each row, the notes, and the end.
abbrev pub replay_text : Replay → List ℕ
replay_text r =
    line (codes "payoff") (codes "replay" ∷ codes "1" ∷ [])
    ++ line (codes "moves") (decimal r.moves ∷ [])
    ++ table_lines r.levels
    ++ notes_text r.notes.list
    ++ line (codes "end") []
