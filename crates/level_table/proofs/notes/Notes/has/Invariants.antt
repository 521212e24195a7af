use Rattle.std.proofs.Common.{◌≡◌, ◌≢◌, ℕ, ◌<◌, get_or}
use Rattle.level_table.specs.Notes.{no_note}
use Rattle.level_table.proofs.notes.Notes.has.Given as goal

abbrev pub invariant-loop-i : goal.invariant-loop-i
invariant-loop-i l = (j : ℕ) → j < l.i → (get_or l.fn.self.list j no_note).state ≢ l.fn.state
