use Rattle.std.proofs.Common.{sym, subst}
use Rattle.schedule_core.specs.Frame.{IsNoteOver}
use Rattle.schedule_core.proofs.Room.{room_after, room_for}
use Rattle.level_board.specs.Board.{BoardId, OwnerView}
use Rattle.level_board.specs.Rule.{IsOwner, frame_of}
use Rattle.level_board.proofs.Owners.{owner_keeps}
use Rattle.level_board.proofs.board.Board.keep.Goals as goal

pub add-requires-clause-room : goal.add-requires-clause-room
add-requires-clause-room c =
    let note = subst (λ (p : OwnerView). IsNoteOver p.board.frame p.seen p.notes c.args.note.now) (sym c.owner.view_is)
    (subst (λ (b : BoardId). IsNoteOver b.frame c.args.owner.now.seen c.args.owner.now.notes c.args.note.now) (sym c.requires.board) c.requires.note) in
    room_for (frame_of c.owner.inside.seat.me.0).problem.game c.owner.inside.notes c.args.note.now c.owner.invariant.2 note.known note.new

pub invariant_of-owner : goal.invariant_of-owner
invariant_of-owner c =
    let note = subst (λ (p : OwnerView). IsNoteOver p.board.frame p.seen p.notes c.args.note.now) (sym c.owner.view_is)
    (subst (λ (b : BoardId). IsNoteOver b.frame c.args.owner.now.seen c.args.owner.now.notes c.args.note.now) (sym c.requires.board) c.requires.note) in (
      subst (IsOwner c.owner.inside.seat.me.0) (sym c.add.ensures.list) (owner_keeps c.owner.inside.seat.me.0 c.owner.inside.notes.list c.args.note.now c.owner.invariant.0 note),
      c.owner.invariant.1,
      room_after (frame_of c.owner.inside.seat.me.0).problem.game c.owner.inside.notes c.args.note.now c.add.new.self c.owner.invariant.2 note.known note.new c.add.ensures.list c.add.ensures.spare c.add.ensures.each,
    )
