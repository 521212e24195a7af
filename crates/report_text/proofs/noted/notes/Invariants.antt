use Rattle.std.proofs.Common.{◌≡◌, List, ◌++◌, length}
use Rattle.level_table.specs.declared.reason.Note.{Note}
use Rattle.level_table.specs.Notes.{AreDistinct}
use Rattle.report_text.specs.Reading.{last_words, notes_words}
use Rattle.report_text.specs.Rules.{KeepNotes}
use Rattle.report_text.proofs.NotesKept.{LeftNotes}
use Rattle.report_text.proofs.noted.notes.Given as goal

abbrev pub invariant-loop-kept : goal.invariant-loop-kept
invariant-loop-kept l = record {
  count : length l.notes.list ≡ l._kept;
  spare : l.notes.spare ≡ 0;
  distinct : AreDistinct l.notes.list;
  keeps : KeepNotes l.sizes l.levels l.notes.list;
  read : (list : List Note) → AreDistinct list → KeepNotes l.sizes l.levels list → l.fn.words ≡ notes_words list ++ last_words → LeftNotes l.sizes l.levels list l.notes.list l.words;
}
