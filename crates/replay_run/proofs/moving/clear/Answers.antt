use Rattle.std.proofs.Common.{◌≡◌, ◌/◌, ◌<◌, ℕ, List, refl, sym, ap, subst, ◌∙◌, inl, inr}
use Rattle.std.proofs.lemmas.Bool.{false≢true}
use Rattle.level_table.specs.declared.reason.Note.{Note}
use Rattle.level_table.specs.Levels.{Table}
use Rattle.level_table.specs.Notes.{Named}
use Rattle.schedule_core.specs.Core.{Core, cleared}
use Rattle.schedule_core.specs.Frame.{NamedRow, rows_of}
use Rattle.schedule_core.proofs.Replays.{named_new}
use Rattle.replay_run.proofs.Closed.{right_note}
use Rattle.replay_run.proofs.moving.clear.Goals as goal

pub note-requires : goal.note-requires
note-requires c =
    let core = c.args.core.now in
    let dirs : c.directions.result ≡ core.frame.start.directions = c.directions.ensures ∙ ap (λ (t : Table). t.directions) c.levels.ensures in
    right_note core c.args.row c.directions.result c.level_of.new.scratch.reasons c.rules.ensures.frame c.rules.ensures.valid c.requires.ready.closed c.requires.row dirs
    (λ named. false≢true (c.if-has.ensures.1 (subst (λ (ns : List Note). Named ns (c.args.row / c.directions.result)) (sym c.notes.ensures.notes) named)))
    c.in-None.ensures.reasons

pub step-requires-in-None : goal.step-requires-in-None
step-requires-in-None c =
    let core = c.args.core.now in
    let dirs : c.directions.result ≡ core.frame.start.directions = c.directions.ensures ∙ ap (λ (t : Table). t.directions) c.levels.ensures in
    let note : Note = record { state = c.args.row / c.directions.result; reasons = c.level_of.new.scratch.reasons } in
    subst (λ (x : Core). (c.args.row < rows_of x.frame) × NamedRow x.frame x.notes c.args.row) (sym c.note.ensures.step)
    (c.requires.row, named_new core.notes note (c.args.row / core.frame.start.directions) (ap (λ (n : ℕ). c.args.row / n) dirs))

pub returns-in-Some-clause-moved : goal.returns-in-Some-clause-moved
returns-in-Some-clause-moved c =
    let core = c.args.core.now in
    let dirs : c.directions.result ≡ core.frame.start.directions = c.directions.ensures ∙ ap (λ (t : Table). t.directions) c.levels.ensures in
    let above = c.in-Some.ensures.level.1 in
    let new : Named core.notes (c.args.row / c.directions.result) → ⊥ =
    λ named. false≢true (c.if-has.ensures.1 (subst (λ (ns : List Note). Named ns (c.args.row / c.directions.result)) (sym c.notes.ensures.notes) named)) in
    inr (inr (
      (λ named. new (subst (Named core.notes) (ap (λ (n : ℕ). c.args.row / n) (sym dirs)) named)),
      (λ nothing. nothing above.profile above.vector above.known above.admissible),
      refl,
    ))

pub returns-in-None-clause-moved : goal.returns-in-None-clause-moved
returns-in-None-clause-moved c =
    let core = c.args.core.now in
    let dirs : c.directions.result ≡ core.frame.start.directions = c.directions.ensures ∙ ap (λ (t : Table). t.directions) c.levels.ensures in
    let note : Note = record { state = c.args.row / c.directions.result; reasons = c.level_of.new.scratch.reasons } in
    let new : Named core.notes (c.args.row / c.directions.result) → ⊥ =
    λ named. false≢true (c.if-has.ensures.1 (subst (λ (ns : List Note). Named ns (c.args.row / c.directions.result)) (sym c.notes.ensures.notes) named)) in
    let right = right_note core c.args.row c.directions.result c.level_of.new.scratch.reasons c.rules.ensures.frame c.rules.ensures.valid c.requires.ready.closed c.requires.row dirs new
    c.in-None.ensures.reasons in
    inr (inl (
      (λ named. new (subst (Named core.notes) (ap (λ (n : ℕ). c.args.row / n) (sym dirs)) named)),
      c.in-None.ensures.empty,
      (note, ap (λ (n : ℕ). c.args.row / n) dirs, right, c.step-in-None.ensures.step ∙ ap (λ (x : Core). cleared x c.args.row) c.note.ensures.step),
    ))
