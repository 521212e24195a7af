use Rattle.std.proofs.Common.{◌<◌, sym, ap, subst, ◌∙◌, refl, arith}
use Rattle.schedule_core.specs.Frame.{IsFrame, rows_of}
use Rattle.level_board.specs.Board.{BoardId, PassView}
use Rattle.level_board.proofs.Moments.{looked_event}
use Rattle.level_board.proofs.Owners.{pass_looked}
use Rattle.level_board.proofs.Steps.{loads}
use Rattle.level_board.proofs.Told.{fallen_to, found_above, found_bounds, found_fell, looked_seen}
use Rattle.level_board.proofs.board.Board.load.Goals as goal

pub load-word-requires : goal.load-word-requires
load-word-requires c =
    let board = ap (λ (p : PassView). p.board) c.pass.view_is ∙ c.requires.board ∙ sym c.self.view_is in
    let within = subst (λ (b : BoardId). c.args.row < rows_of b.frame) (sym c.self.view_is) c.requires.row in
    (ap (λ (b : BoardId). b.table) board, omega (arith, within, c.self.invariant.1), loads _ _ _ _ c.args.row c.pass.invariant.0.unspent (ap (λ (b : BoardId). b.frame) board) within)

pub invariant_of-pass : goal.invariant_of-pass
invariant_of-pass c =
    let board = ap (λ (p : PassView). p.board) c.pass.view_is ∙ c.requires.board in
    let within = subst (λ (b : BoardId). c.args.row < rows_of b.frame) (sym board) c.requires.row in
    let told = c.load-word.ensures.2 in
    let kept = pass_looked _ c.args.row _ _ told.0 c.pass.invariant.0 within in
    (kept.0, kept.1 ∙ c.pass.invariant.1, told.1 ∙ c.pass.invariant.2)

pub returns-clause-event : goal.returns-clause-event
returns-clause-event c =
    let same = ap (λ (p : PassView). p.board.frame) c.pass.view_is ∙ ap (λ (b : BoardId). b.frame) c.requires.board in
    let seen = ap (λ (p : PassView). p.seen) c.pass.view_is in
    let told = c.load-word.ensures.2.0 in
    let is = c.level_of.ensures.level told.found.level told.found.sound.small told.found.word in
    looked_event _ c.args.row _ _ c.args.self.now.frame c.args.pass.now.seen _ _ told c.pass.invariant.0.unspent same seen refl is c.requires.row

pub returns-clause-seen : goal.returns-clause-seen
returns-clause-seen c =
    let seen = ap (λ (p : PassView). p.seen) c.pass.view_is in
    let told = c.load-word.ensures.2.0 in
    let is = c.level_of.ensures.level told.found.level told.found.sound.small told.found.word in
    looked_seen _ c.args.row _ _ c.args.pass.now.seen _ told seen is

pub returns-clause-fell : goal.returns-clause-fell
returns-clause-fell c =
    let seen = ap (λ (p : PassView). p.seen) c.pass.view_is in
    let told = c.load-word.ensures.2.0 in
    let is = c.level_of.ensures.level told.found.level told.found.sound.small told.found.word in
    found_fell _ c.args.row _ c.args.pass.now.seen _ told.found seen is

pub returns-clause-fallen : goal.returns-clause-fallen
returns-clause-fallen c =
    let seen = ap (λ (p : PassView). p.seen) c.pass.view_is in
    let told = c.load-word.ensures.2.0 in
    let is = c.level_of.ensures.level told.found.level told.found.sound.small told.found.word in
    fallen_to c.args.pass.now.seen _ c.args.row _ (looked_seen _ c.args.row _ _ c.args.pass.now.seen _ told seen is) (found_fell _ c.args.row _ c.args.pass.now.seen _ told.found seen is)

pub returns-clause-above : goal.returns-clause-above
returns-clause-above c =
    let same = ap (λ (p : PassView). p.board.frame) c.pass.view_is ∙ ap (λ (b : BoardId). b.frame) c.requires.board in
    let told = c.load-word.ensures.2.0 in
    let is = c.level_of.ensures.level told.found.level told.found.sound.small told.found.word in
    found_above _ c.args.row _ c.args.self.now.frame _ told.found same is

pub returns-clause-bounds : goal.returns-clause-bounds
returns-clause-bounds c =
    let same = ap (λ (p : PassView). p.board.frame) c.pass.view_is ∙ ap (λ (b : BoardId). b.frame) c.requires.board in
    let told = c.load-word.ensures.2.0 in
    let is = c.level_of.ensures.level told.found.level told.found.sound.small told.found.word in
    let frame : IsFrame c.args.self.now.frame = subst (λ (b : BoardId). IsFrame b.frame) c.self.view_is c.self.invariant.0 in
    found_bounds _ c.args.row _ c.args.self.now.frame _ told.found same is frame c.requires.row
