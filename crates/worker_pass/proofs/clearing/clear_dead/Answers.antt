use Rattle.std.proofs.Common.{◌++◌, [], ◌∷◌, List, sym, subst, ◌∙◌}
use Rattle.level_table.specs.declared.reason.Note.{Note}
use Rattle.level_table.specs.Levels.{Table, levels_in}
use Rattle.level_table.specs.Notes.{Named}
use Rattle.schedule_core.specs.Frame.{IsFallen}
use Rattle.worker_pass.specs.Clearings.{KeepsNotes}
use Rattle.worker_pass.proofs.Naming.{named_new, noted_cleared}
use Rattle.worker_pass.proofs.States.{AreMarkedOff, cleared_more_state, emptied, is_even, marked_off, names_empty}
use Rattle.worker_pass.proofs.clearing.clear_dead.Goals as goal

pub clear_state-requires-clause-named : goal.clear_state-requires-clause-named
clear_state-requires-clause-named c =
    let note : Note = c.name_state.ensures.note.0 in
    subst (λ (ns : List Note). Named ns c.args.s) (sym c.name_state.ensures.note.2) (subst (Named (c.args.owner.now.notes ++ note ∷ [])) c.name_state.ensures.note.1.state (named_new c.args.owner.now.notes note))

pub returns-clause-cleared : goal.returns-clause-cleared
returns-clause-cleared c =
    let v = c.args.owner.now.seen in
    let v' = c.clear_state.new.owner.seen in
    let fell : IsFallen v v' = subst (λ (t : Table). IsFallen t v') c.name_state.ensures.seen c.clear_state.ensures.fell in
    cleared_more_state c.args.board.now.frame c.args.owner.now.notes c.clear_state.new.owner.notes c.name_state.ensures.note.0 v v' c.args.s c.rules.ensures
    (c.clear_state.ensures.notes ∙ c.name_state.ensures.note.2) c.name_state.ensures.note.1.state fell c.requires.cleared c.clear_state.ensures.here

pub returns-clause-one : goal.returns-clause-one
returns-clause-one c =
    let f = c.args.board.now.frame in
    let o = c.args.owner.now in
    let v = o.seen in
    let v' = c.clear_state.new.owner.seen in
    let marked : AreMarkedOff f o.notes v = marked_off c.args.board.now o c.rules.ensures c.requires.owner c.rules-2.ensures.seen c.rules-2.ensures.named c.requires.cleared in
    let fell : IsFallen v v' = subst (λ (t : Table). IsFallen t v') c.name_state.ensures.seen c.clear_state.ensures.fell in
    emptied f c.args.s v v' o.notes c.clear_state.new.owner.notes c.name_state.ensures.note.0 c.rules.ensures marked.directions_same fell
    c.name_state.ensures.number c.name_state.ensures.nothing c.clear_state.ensures.here
    (λ r none. c.clear_state.ensures.others r none ∙ (λ i. Rattle.level_table.specs.Levels.level_at (c.name_state.ensures.seen i) r))
    c.name_state.ensures.note.1 (c.clear_state.ensures.notes ∙ c.name_state.ensures.note.2)

pub returns-clause-noted : goal.returns-clause-noted
returns-clause-noted c =
    let f = c.args.board.now.frame in
    let o = c.args.owner.now in
    let marked : AreMarkedOff f o.notes o.seen = marked_off c.args.board.now o c.rules.ensures c.requires.owner c.rules-2.ensures.seen c.rules-2.ensures.named c.requires.cleared in
    subst (λ (ns : List Note). KeepsNotes f.problem (levels_in o.seen) o.notes ns) (sym (c.clear_state.ensures.notes ∙ c.name_state.ensures.note.2))
    (noted_cleared f.problem (levels_in o.seen) o.notes c.args.s c.name_state.ensures.note.0 c.rules.ensures.problem (is_even f o.notes o.seen marked) (names_empty f o.notes o.seen marked) c.requires.state
    c.name_state.ensures.number c.name_state.ensures.note.1)
