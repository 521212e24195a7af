use Rattle.std.proofs.Common.{◌≡◌, ℕ, List, [], ◌∷◌, ◌++◌, length, drop, sym, ap, subst, ◌∙◌, arith}
use Rattle.std.proofs.lemmas.Bool.{true≢false}
use Rattle.std.proofs.lemmas.List.{drop-drop, length_push}
use Rattle.level_table.specs.declared.reason.Note.{Note}
use Rattle.level_table.specs.Levels.{levels_in}
use Rattle.level_table.specs.Notes.{AreDistinct}
use Rattle.level_table.proofs.NoteLemmas.{distinct_more}
use Rattle.report_text.specs.Rules.{KeepNotes}
use Rattle.report_text.proofs.NotesKept.{LeftNotes, keep_more_notes, next_note, next_is_new, next_state, note_taken, notes_end, notes_full}
use Rattle.report_text.proofs.noted.notes.Goals as goal
use Rattle.report_text.proofs.noted.notes.Goals.{then-has-via-then-has, then-has-via-else-has+then-not-is_empty}

pub returns-then-not-next_is-clause-read : goal.returns-then-not-next_is-clause-read
returns-then-not-next_is-clause-read c = λ list distinct k e.
    notes_end c.args.sizes c.args.levels.now list c.loop-kept.notes.list c.loop-kept.words (c.loop-kept.invariant.read list distinct k e) (λ w. true≢false (sym (c.next_is.ensures.1 w) ∙ c.if-not-next_is.true))

pub returns-then-has-clause-read : goal.returns-then-has-clause-read
returns-then-has-clause-read c = λ list distinct k e.
    let z = c.args.sizes in
    let h = next_note z c.args.levels.now list c.loop-kept.notes.list c.loop-kept.words (c.loop-kept.invariant.read list distinct k e) (c.next_is.ensures.0 c.if-not-next_is.false) in
    let state : c.small-state.result ≡ h.note.state = next_state z c.args.levels.now list c.loop-kept.notes.list c.loop-kept.words c.skip.new.self c.small-state.result h c.skip.ensures c.small-state.ensures.read in
    elim c.then-has.branch [
      | then-has-via-then-has w ↦ absurd (next_is_new z c.args.levels.now list c.loop-kept.notes.list c.loop-kept.words h c.small-state.result distinct state (c.has.ensures.0 w.if-has.true))
      | then-has-via-else-has+then-not-is_empty w ↦ absurd (true≢false
          (sym (w.is_empty.ensures.1 (λ d l. ap (λ (s : ℕ). levels_in c.args.levels.now s d) state ∙ h.keeps.empty d (omega (arith, l, c.requires.levels.directions)))) ∙ w.if-not-is_empty.true))
    ]

pub loop-kept-preserved : goal.loop-kept-preserved
loop-kept-preserved c =
    let z = c.args.sizes in
    let note : Note = record { state = c.small-state.result; reasons = c.in_ok-reasons.reasons } in
    let more : c.push.new.self.list ≡ c.loop-kept.notes.list ++ note ∷ [] = c.in_ok-push.ensures.ok in
    let all_empty = c.is_empty.ensures.0 c.if-not-is_empty.false in
    record {
      count = omega (arith, ap length more, length_push c.loop-kept.notes.list note, c.loop-kept.invariant.count);
      spare = omega (arith, c.push.ensures.spare, c.loop-kept.invariant.spare);
      distinct = subst AreDistinct (sym more) (distinct_more c.loop-kept.notes.list note c.loop-kept.invariant.distinct (λ n. true≢false (sym (c.has.ensures.1 n) ∙ c.if-has.false)));
      keeps = subst (KeepNotes z c.args.levels.now) (sym more) (keep_more_notes z c.args.levels.now c.loop-kept.notes.list note c.loop-kept.invariant.keeps
          (record { known = omega (arith, c.small-state.ensures.within, c.requires.sizes.some_state); empty = λ d l. all_empty d (omega (arith, l, c.requires.levels.directions)); few = c.in_ok-reasons.ensures.few; reasons = c.in_ok-reasons.ensures.keeps }));
      read = λ list distinct k e.
          let h = next_note z c.args.levels.now list c.loop-kept.notes.list c.loop-kept.words (c.loop-kept.invariant.read list distinct k e) (c.next_is.ensures.0 c.if-not-next_is.false) in
          let state : c.small-state.result ≡ h.note.state = next_state z c.args.levels.now list c.loop-kept.notes.list c.loop-kept.words c.skip.new.self c.small-state.result h c.skip.ensures c.small-state.ensures.read in
          subst (λ (ns : List Note). LeftNotes z c.args.levels.now list ns c.reasons.new.words) (sym more)
          (note_taken z c.args.levels.now list c.loop-kept.notes.list c.loop-kept.words c.small-state.new.self c.reasons.new.words note h state
          (c.small-state.ensures.rest ∙ ap (drop 1) c.skip.ensures ∙ drop-drop 1 1 c.loop-kept.words) c.in_ok-reasons.ensures.read);
    }

pub returns-clause-read : goal.returns-clause-read
returns-clause-read c = λ list distinct k e.
    notes_full c.args.sizes c.args.levels.now list c.loop-kept.notes.list c.loop-kept.words (c.loop-kept.invariant.read list distinct k e) distinct k (omega (arith, c.loop-kept.invariant.count, c.loop-kept-test.false))
