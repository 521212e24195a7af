use Rattle.std.proofs.Common.{◌<◌, sym, ap, subst, ◌∙◌, arith}
use Rattle.level_table.specs.Levels.{Table}
use Rattle.schedule_core.specs.declared.event.Event.TheVariants as events
use Rattle.schedule_core.specs.Frame.{Frame, IsFallen, IsSeen, lesser_table, rows_of}
use Rattle.schedule_core.specs.Room.{HasRoom}
use Rattle.level_board.specs.Board.{BoardId, IsEvent, OwnerView, PassView}
use Rattle.level_board.proofs.Moments.{fallen_joined, fallen_trans}
use Rattle.atomic_table.specs.Table.{Me}
use Rattle.level_board.specs.declared.view.View.{View}
use Rattle.level_board.specs.Rule.{frame_of, EmptyIsCleared, IsOwner}
use Rattle.schedule_core.proofs.Levels.{some_row}
use Rattle.level_board.proofs.Steps.{joins, learns}
use Rattle.level_board.proofs.Owners.{owner_joined}
use Rattle.level_board.proofs.board.Board.join.Goals as goal

pub load_owner-requires-clause-row : goal.load_owner-requires-clause-row
load_owner-requires-clause-row c = subst (λ (b : BoardId). 0 < rows_of b.frame) c.self.view_is (some_row _ c.self.invariant.0)

pub join_seat-requires : goal.join_seat-requires
join_seat-requires c =
    let board = ap (λ (p : OwnerView). p.board) c.owner.view_is ∙ c.load_owner.ensures.board ∙ c.requires.board ∙ sym c.self.view_is in
    let other = ap (λ (p : PassView). p.board) c.pass.view_is ∙ c.requires.same ∙ sym c.self.view_is in (
      ap (λ (b : BoardId). b.table) board,
      ap (λ (b : BoardId). b.table) other,
      c.pass.invariant.2,
      omega (arith, c.self.invariant.1),
      joins _ _ _ _ _ c.owner.invariant.0.pass.unspent c.pass.invariant.0.unspent c.pass.invariant.1,
    )

pub load-requires : goal.load-requires
load-requires c =
    let board = ap (λ (p : OwnerView). p.board) c.owner.view_is ∙ c.load_owner.ensures.board ∙ c.requires.board ∙ sym c.self.view_is in
    let me = c.join_seat.ensures.2 in (
      c.join_seat.ensures.0 ∙ ap (λ (b : BoardId). b.table) board,
      omega (arith, c.self.invariant.1),
      learns _ _ _ _ 0 (ap (λ (m : Me (Unit {0}) View). m.0.spent) me ∙ c.owner.invariant.0.pass.unspent) (ap (λ (m : Me (Unit {0}) View). frame_of m.0) me ∙ ap (λ (b : BoardId). b.frame) board),
    )

pub invariant_of-owner : goal.invariant_of-owner
invariant_of-owner c =
    let board = ap (λ (p : OwnerView). p.board) c.owner.view_is ∙ c.load_owner.ensures.board ∙ c.requires.board in
    let other = ap (λ (p : PassView). p.board) c.pass.view_is ∙ c.requires.same in
    let frames = ap (λ (b : BoardId). b.frame) (other ∙ sym board) in
    let joins = c.join_seat.ensures.2 in
    let told = c.load.ensures.2 in
    let me = told.0 ∙ joins in
    let marked = subst (λ (m : Me (Unit {0}) View). EmptyIsCleared m.0) joins (told.1 (ap (λ (m : Me (Unit {0}) View). m.0.owner) joins ∙ c.owner.invariant.0.owner)) in (
      subst (λ (v : View). IsOwner v c.owner.inside.notes.list) (sym (ap (λ (m : Me (Unit {0}) View). m.0) me)) (owner_joined _ _ _ frames c.owner.invariant.0 c.pass.invariant.0 marked),
      ap (λ (m : Me (Unit {0}) View). m.1) me ∙ c.owner.invariant.1,
      subst (λ (v : View). HasRoom (frame_of v).problem.game c.owner.inside.notes) (sym (ap (λ (m : Me (Unit {0}) View). m.0) me)) c.owner.invariant.2,
    )

pub returns-clause-seen : goal.returns-clause-seen
returns-clause-seen c =
    let me = c.load.ensures.2.0 ∙ c.join_seat.ensures.2 in
    let mine = ap (λ (p : OwnerView). p.seen) c.owner.view_is in
    let theirs = ap (λ (p : PassView). p.seen) c.pass.view_is in
    let seen = ap (λ (m : Me (Unit {0}) View). m.0.seen) me ∙ (λ i. lesser_table (mine i) (theirs i)) in
    let loaded = c.load_owner.ensures.seen in (
      c.load_owner.result,
      subst (λ (t : Table). IsEvent c.args.self.now.frame (λ w. events.Load w 0) 0 c.args.owner.now.seen c.load_owner.result t) loaded c.load_owner.ensures.event,
      c.load_owner.ensures.fell,
      seen ∙ ap (λ (t : Table). lesser_table t c.args.pass.seen) loaded,
    )

pub returns-clause-fallen : goal.returns-clause-fallen
returns-clause-fallen c =
    let me = c.load.ensures.2.0 ∙ c.join_seat.ensures.2 in
    let mine = ap (λ (p : OwnerView). p.seen) c.owner.view_is in
    let theirs = ap (λ (p : PassView). p.seen) c.pass.view_is in
    let seen = ap (λ (m : Me (Unit {0}) View). m.0.seen) me ∙ (λ i. lesser_table (mine i) (theirs i)) in
    let frames = ap (λ (p : OwnerView). p.board.frame) c.owner.view_is ∙ ap (λ (b : BoardId). b.frame) (c.load_owner.ensures.board ∙ c.requires.board) in
    let others = ap (λ (p : PassView). p.board.frame) c.pass.view_is ∙ ap (λ (b : BoardId). b.frame) c.requires.same in
    let fell = fallen_joined c.args.self.now.frame c.load_owner.new.owner.seen c.args.pass.seen
    (subst (λ (t : Table). IsSeen c.args.self.now.frame t) mine (subst (λ (g : Frame). IsSeen g c.owner.inside.seat.me.0.seen) frames c.owner.invariant.0.pass.seen))
    (subst (λ (t : Table). IsSeen c.args.self.now.frame t) theirs (subst (λ (g : Frame). IsSeen g c.pass.inside.seat.me.0.seen) others c.pass.invariant.0.seen)) in
    fallen_trans c.args.owner.now.seen c.load_owner.new.owner.seen _ c.load_owner.ensures.fallen (subst (IsFallen c.load_owner.new.owner.seen) (sym seen) fell.0)

pub returns-clause-below : goal.returns-clause-below
returns-clause-below c =
    let me = c.load.ensures.2.0 ∙ c.join_seat.ensures.2 in
    let mine = ap (λ (p : OwnerView). p.seen) c.owner.view_is in
    let theirs = ap (λ (p : PassView). p.seen) c.pass.view_is in
    let seen = ap (λ (m : Me (Unit {0}) View). m.0.seen) me ∙ (λ i. lesser_table (mine i) (theirs i)) in
    let frames = ap (λ (p : OwnerView). p.board.frame) c.owner.view_is ∙ ap (λ (b : BoardId). b.frame) (c.load_owner.ensures.board ∙ c.requires.board) in
    let others = ap (λ (p : PassView). p.board.frame) c.pass.view_is ∙ ap (λ (b : BoardId). b.frame) c.requires.same in
    let fell = fallen_joined c.args.self.now.frame c.load_owner.new.owner.seen c.args.pass.seen
    (subst (λ (t : Table). IsSeen c.args.self.now.frame t) mine (subst (λ (g : Frame). IsSeen g c.owner.inside.seat.me.0.seen) frames c.owner.invariant.0.pass.seen))
    (subst (λ (t : Table). IsSeen c.args.self.now.frame t) theirs (subst (λ (g : Frame). IsSeen g c.pass.inside.seat.me.0.seen) others c.pass.invariant.0.seen)) in
    subst (IsFallen c.args.pass.seen) (sym seen) fell.1
