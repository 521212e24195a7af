-- Notes of distinct states are no more than there are states.
use Rattle.std.proofs.Common.{◌≡◌, ℕ, ◌<◌, ◌≤◌, eqb, List, length, get_or, sym, ◌∙◌, arith}
use Rattle.std.specs.Prelude.{map}
use Rattle.std.proofs.lemmas.Bool.{ne_eqb, eqb-true}
use Rattle.std.proofs.lemmas.List.{get_or-map, length-map}
use Rattle.std.proofs.lemmas.List.Folds.{Any-from_list_any}
use Rattle.std.proofs.lemmas.Map.Keys.{IsDistinct-from_apart}
use Rattle.std.proofs.lemmas.Map.Steps.{length-le_from_distinct_below}
use Rattle.level_table.specs.declared.reason.Note.{Note}
use Rattle.level_table.specs.Levels.{Table}
use Rattle.level_table.specs.Notes.{AreDistinct, no_note}
use Rattle.report_text.specs.declared.rules.Sizes.{Sizes}
use Rattle.report_text.specs.ReportText.{note_at}
use Rattle.report_text.specs.Rules.{KeepNotes}
use Rattle.report_text.proofs.NoteWords.{note_keeps}

state_of : Note → ℕ
state_of note = note.state

few_notes : (notes : List Note) (n : ℕ) → AreDistinct notes → ((l : ℕ) → l < length notes → (note_at notes l).state < n) → length notes ≤ n
unfolding state_of
few_notes notes n distinct below =
    let states : List ℕ = map state_of notes in
    let same : length states ≡ length notes = length-map notes state_of in
    let at : (l d : ℕ) → l < length notes → get_or states l d ≡ (note_at notes l).state = λ l d p. get_or-map state_of notes l no_note d p in
    let apart = IsDistinct-from_apart eqb states
    (λ i j d l m. ne_eqb (get_or states i d) (get_or states j d) (λ e. distinct i j l (omega arith) (sym (at i d (omega arith)) ∙ e ∙ at j d (omega arith)))) in
    let few : length states ≤ n = length-le_from_distinct_below states n apart
    (λ q e.
    let k = Any-from_list_any (eqb q) states e in
    let here : k.0 < length notes = omega (arith, k.2) in
    let value : q ≡ (note_at notes k.0).state = eqb-true q k.1 k.4 ∙ sym k.3 ∙ at k.0 k.1 here in
    omega (arith, value, below k.0 here)) in
    omega (arith, few, same)

-- notes that keep the rules
pub notes_few : (z : Sizes) (t : Table) (notes : List Note) → AreDistinct notes → KeepNotes z t notes → length notes ≤ z.states
notes_few z t notes distinct k = few_notes notes z.states distinct (λ l p. (note_keeps z t notes l p k).known)
