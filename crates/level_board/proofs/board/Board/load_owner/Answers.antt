use Rattle.std.proofs.Common.{◌<◌, sym, ap, subst, ◌∙◌, refl, arith}
use Rattle.schedule_core.specs.Frame.{Frame, IsFrame, NamedRow, rows_of}
use Rattle.schedule_core.specs.Room.{HasRoom}
use Rattle.level_board.specs.declared.view.View.{View}
use Rattle.level_board.specs.Board.{BoardId, OwnerView}
use Rattle.level_board.specs.Rule.{frame_of}
use Rattle.level_board.proofs.Moments.{looked_event}
use Rattle.level_board.proofs.Owners.{owner_looked}
use Rattle.level_board.proofs.Steps.{loads}
use Rattle.level_board.proofs.Told.{fallen_to, found_above, found_bounds, found_fell, looked_seen}
use Rattle.level_board.proofs.board.Board.load_owner.Goals as goal

pub load-word-requires : goal.load-word-requires
load-word-requires c =
    let board = ap (λ (p : OwnerView). p.board) c.owner.view_is ∙ c.requires.board ∙ sym c.self.view_is in
    let within = subst (λ (b : BoardId). c.args.row < rows_of b.frame) (sym c.self.view_is) c.requires.row in
    (ap (λ (b : BoardId). b.table) board, omega (arith, within, c.self.invariant.1), loads _ _ _ _ c.args.row c.owner.invariant.0.pass.unspent (ap (λ (b : BoardId). b.frame) board) within)

pub invariant_of-owner : goal.invariant_of-owner
invariant_of-owner c =
    let board = ap (λ (p : OwnerView). p.board) c.owner.view_is ∙ c.requires.board in
    let within = subst (λ (b : BoardId). c.args.row < rows_of b.frame) (sym board) c.requires.row in
    let told = c.load-word.ensures.2 in
    (owner_looked _ c.args.row _ _ _ told.0 c.owner.invariant.0 within, told.1 ∙ c.owner.invariant.1, subst (λ (v : View). HasRoom (frame_of v).problem.game c.owner.inside.notes) (sym told.0.seen) c.owner.invariant.2)

pub returns-clause-event : goal.returns-clause-event
returns-clause-event c =
    let same = ap (λ (p : OwnerView). p.board.frame) c.owner.view_is ∙ ap (λ (b : BoardId). b.frame) c.requires.board in
    let seen = ap (λ (p : OwnerView). p.seen) c.owner.view_is in
    let told = c.load-word.ensures.2.0 in
    let is = c.level_of.ensures.level told.found.level told.found.sound.small told.found.word in
    looked_event _ c.args.row _ _ c.args.self.now.frame c.args.owner.now.seen _ _ told c.owner.invariant.0.pass.unspent same seen refl is c.requires.row

pub returns-clause-seen : goal.returns-clause-seen
returns-clause-seen c =
    let seen = ap (λ (p : OwnerView). p.seen) c.owner.view_is in
    let told = c.load-word.ensures.2.0 in
    let is = c.level_of.ensures.level told.found.level told.found.sound.small told.found.word in
    looked_seen _ c.args.row _ _ c.args.owner.now.seen _ told seen is

pub returns-clause-fell : goal.returns-clause-fell
returns-clause-fell c =
    let seen = ap (λ (p : OwnerView). p.seen) c.owner.view_is in
    let told = c.load-word.ensures.2.0 in
    let is = c.level_of.ensures.level told.found.level told.found.sound.small told.found.word in
    found_fell _ c.args.row _ c.args.owner.now.seen _ told.found seen is

pub returns-clause-fallen : goal.returns-clause-fallen
returns-clause-fallen c =
    let seen = ap (λ (p : OwnerView). p.seen) c.owner.view_is in
    let told = c.load-word.ensures.2.0 in
    let is = c.level_of.ensures.level told.found.level told.found.sound.small told.found.word in
    fallen_to c.args.owner.now.seen _ c.args.row _ (looked_seen _ c.args.row _ _ c.args.owner.now.seen _ told seen is) (found_fell _ c.args.row _ c.args.owner.now.seen _ told.found seen is)

pub returns-clause-above : goal.returns-clause-above
returns-clause-above c =
    let same = ap (λ (p : OwnerView). p.board.frame) c.owner.view_is ∙ ap (λ (b : BoardId). b.frame) c.requires.board in
    let told = c.load-word.ensures.2.0 in
    let is = c.level_of.ensures.level told.found.level told.found.sound.small told.found.word in
    found_above _ c.args.row _ c.args.self.now.frame _ told.found same is

pub returns-clause-bounds : goal.returns-clause-bounds
returns-clause-bounds c =
    let same = ap (λ (p : OwnerView). p.board.frame) c.owner.view_is ∙ ap (λ (b : BoardId). b.frame) c.requires.board in
    let told = c.load-word.ensures.2.0 in
    let is = c.level_of.ensures.level told.found.level told.found.sound.small told.found.word in
    let frame : IsFrame c.args.self.now.frame = subst (λ (b : BoardId). IsFrame b.frame) c.self.view_is c.self.invariant.0 in
    found_bounds _ c.args.row _ c.args.self.now.frame _ told.found same is frame c.requires.row

pub returns-clause-named : goal.returns-clause-named
returns-clause-named c = λ empty.
    let same = ap (λ (p : OwnerView). p.board.frame) c.owner.view_is ∙ ap (λ (b : BoardId). b.frame) c.requires.board in
    let told = c.load-word.ensures.2.0 in
    let is = c.level_of.ensures.level told.found.level told.found.sound.small told.found.word in
    let within = subst (λ (g : Frame). c.args.row < rows_of g) (sym same) c.requires.row in
    let named = c.owner.invariant.0.named c.args.row within (told.found.marked c.owner.invariant.0.owner (sym is ∙ empty)) in
    subst (λ (g : Frame). NamedRow g c.owner.inside.notes.list c.args.row) same named
