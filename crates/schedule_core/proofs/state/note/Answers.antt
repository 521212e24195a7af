use Rattle.std.proofs.Common.{List, sym, subst}
use Rattle.level_table.specs.declared.reason.Note.{Note}
use Rattle.schedule_core.specs.Frame.{IsNoteOver}
use Rattle.schedule_core.specs.Core.{Core, IsValid, seen_by}
use Rattle.schedule_core.specs.State.{core_of}
use Rattle.schedule_core.proofs.Events.{note_valid}
use Rattle.schedule_core.proofs.Room.{room_after, room_for}
use Rattle.schedule_core.proofs.state.note.Goals as goal

pub add-requires-clause-room : goal.add-requires-clause-room
add-requires-clause-room c =
    let right = subst (λ (x : Core). IsNoteOver x.frame (seen_by x 0) x.notes c.args.note.now) (sym c.state.view_is) c.requires in
    room_for c.state.inside.problem.game c.state.inside.notes c.args.note.now c.state.invariant.4 right.known right.new

pub invariant_of-state : goal.invariant_of-state
invariant_of-state c =
    let right = subst (λ (x : Core). IsNoteOver x.frame (seen_by x 0) x.notes c.args.note.now) (sym c.state.view_is) c.requires in
    let valid = note_valid (core_of c.state.inside.problem c.state.inside.start.value c.state.inside.words c.state.inside.seen.items c.state.inside.notes.list) c.args.note.now c.state.invariant.0 c.state.invariant.1 right in (
      c.state.invariant.0,
      subst (λ (ns : List Note). IsValid (core_of c.state.inside.problem c.state.inside.start.value c.state.inside.words c.state.inside.seen.items ns)) (sym c.add.ensures.list) valid,
      c.state.invariant.2,
      c.state.invariant.3,
      room_after c.state.inside.problem.game c.state.inside.notes c.args.note.now c.add.new.self c.state.invariant.4 right.known right.new c.add.ensures.list c.add.ensures.spare c.add.ensures.each,
    )
