use Rattle.std.proofs.Common.{◌<◌, sym, ap, subst, ◌∙◌, refl, arith}
use Rattle.level_table.specs.declared.level.Level.TheVariants.{Empty}
use Rattle.schedule_core.specs.Frame.{AreKept, Frame, IsFrame, NamedRow, rows_of}
use Rattle.schedule_core.specs.Room.{HasRoom}
use Rattle.schedule_core.proofs.Events.{named_above}
use Rattle.level_board.specs.declared.view.View.{View}
use Rattle.level_board.specs.Board.{BoardId, OwnerView}
use Rattle.level_board.specs.Rule.{frame_of, frame_of_key}
use Rattle.level_board.proofs.Moments.{cleared_event}
use Rattle.level_board.proofs.Owners.{owner_cleared}
use Rattle.level_board.proofs.Steps.{clears}
use Rattle.level_board.proofs.Told.{cleared_seen, fallen_to, found_above, found_bounds, found_fell}
use Rattle.level_board.proofs.board.Board.clear.Goals as goal

pub fetch_min-old-requires : goal.fetch_min-old-requires
fetch_min-old-requires c =
    let board = ap (λ (p : OwnerView). p.board) c.owner.view_is ∙ c.requires.board ∙ sym c.self.view_is in
    let same = ap (λ (b : BoardId). b.frame) board in
    let within = subst (λ (b : BoardId). c.args.row < rows_of b.frame) (sym c.self.view_is) c.requires.row in
    let named = subst (λ (b : BoardId). NamedRow b.frame c.args.owner.now.notes c.args.row) (sym c.self.view_is) c.requires.named in
    let kept = subst (λ (f : Frame). AreKept f c.owner.inside.notes.list) same c.owner.invariant.0.kept in
    let above = named_above _ _ c.args.row c.self.invariant.0 (subst (λ (p : OwnerView). AreKept (frame_of_key c.self.inside.table.shared.key) p.notes) c.owner.view_is kept) within named in
    let marks = c.owner.invariant.0.marks ∙ ap rows_of same in
    (ap (λ (b : BoardId). b.table) board, omega (arith, within, c.self.invariant.1), clears _ _ _ _ c.args.row c.owner.invariant.0.pass.unspent c.owner.invariant.0.owner marks same within above)

pub invariant_of-owner : goal.invariant_of-owner
invariant_of-owner c =
    let board = ap (λ (p : OwnerView). p.board) c.owner.view_is ∙ c.requires.board in
    let within = subst (λ (b : BoardId). c.args.row < rows_of b.frame) (sym board) c.requires.row in
    let named = subst (λ (p : OwnerView). NamedRow p.board.frame p.notes c.args.row) (sym c.owner.view_is) (subst (λ (b : BoardId). NamedRow b.frame c.args.owner.now.notes c.args.row) (sym c.requires.board) c.requires.named) in
    let told = c.fetch_min-old.ensures.2 in
    (owner_cleared _ c.args.row _ _ _ told.0 c.owner.invariant.0 within named, told.1 ∙ c.owner.invariant.1, subst (λ (v : View). HasRoom (frame_of v).problem.game c.owner.inside.notes) (sym told.0.seen) c.owner.invariant.2)

pub returns-clause-event : goal.returns-clause-event
returns-clause-event c =
    let same = ap (λ (p : OwnerView). p.board.frame) c.owner.view_is ∙ ap (λ (b : BoardId). b.frame) c.requires.board in
    let seen = ap (λ (p : OwnerView). p.seen) c.owner.view_is in
    let told = c.fetch_min-old.ensures.2.0 in
    let is = c.level_of.ensures.level told.found.level told.found.sound.small told.found.word in
    cleared_event _ c.args.row _ _ c.args.self.now.frame c.args.owner.now.seen _ _ c.args.owner.now.notes told c.owner.invariant.0.pass.unspent c.owner.invariant.0.owner same seen refl is c.requires.row c.requires.named

pub returns-clause-seen : goal.returns-clause-seen
returns-clause-seen c =
    let seen = ap (λ (p : OwnerView). p.seen) c.owner.view_is in
    let told = c.fetch_min-old.ensures.2.0 in
    cleared_seen _ c.args.row _ _ c.args.owner.now.seen told seen

pub returns-clause-fell : goal.returns-clause-fell
returns-clause-fell c =
    let seen = ap (λ (p : OwnerView). p.seen) c.owner.view_is in
    let told = c.fetch_min-old.ensures.2.0 in
    let is = c.level_of.ensures.level told.found.level told.found.sound.small told.found.word in
    found_fell _ c.args.row _ c.args.owner.now.seen _ told.found seen is

pub returns-clause-fallen : goal.returns-clause-fallen
returns-clause-fallen c =
    let seen = ap (λ (p : OwnerView). p.seen) c.owner.view_is in
    let told = c.fetch_min-old.ensures.2.0 in
    fallen_to c.args.owner.now.seen _ c.args.row Empty (cleared_seen _ c.args.row _ _ c.args.owner.now.seen told seen) tt

pub returns-clause-above : goal.returns-clause-above
returns-clause-above c =
    let same = ap (λ (p : OwnerView). p.board.frame) c.owner.view_is ∙ ap (λ (b : BoardId). b.frame) c.requires.board in
    let told = c.fetch_min-old.ensures.2.0 in
    let is = c.level_of.ensures.level told.found.level told.found.sound.small told.found.word in
    found_above _ c.args.row _ c.args.self.now.frame _ told.found same is

pub returns-clause-bounds : goal.returns-clause-bounds
returns-clause-bounds c =
    let same = ap (λ (p : OwnerView). p.board.frame) c.owner.view_is ∙ ap (λ (b : BoardId). b.frame) c.requires.board in
    let told = c.fetch_min-old.ensures.2.0 in
    let is = c.level_of.ensures.level told.found.level told.found.sound.small told.found.word in
    let frame : IsFrame c.args.self.now.frame = subst (λ (b : BoardId). IsFrame b.frame) c.self.view_is c.self.invariant.0 in
    found_bounds _ c.args.row _ c.args.self.now.frame _ told.found same is frame c.requires.row
