use Rattle.std.proofs.Common.{sym, ap, subst, ◌∙◌}
use Rattle.schedule_core.specs.Frame.{Frame}
use Rattle.level_board.specs.Board.{BoardId, HasValidState, OwnerView}
use Rattle.level_board.specs.Rule.{IsOwner}
use Rattle.level_board.proofs.Moments.{state_shown}
use Rattle.level_board.proofs.board.Board.into_notes.Goals as goal

pub returns-clause-valid : goal.returns-clause-valid
returns-clause-valid c =
    let final = c.close_with-closed.ensures.values.2 in
    let frame = ap (λ (b : BoardId). b.frame) c.self.view_is in
    let same = ap (λ (p : OwnerView). p.board.frame) c.owner.view_is ∙ ap (λ (b : BoardId). b.frame) c.requires ∙ sym frame in
    let owner = subst (λ (p : OwnerView). IsOwner c.owner.inside.seat.me.0 p.notes) c.owner.view_is c.owner.invariant.0 in
    subst (λ (f : Frame). HasValidState f c.args.owner) frame (state_shown _ final.0 _ c.owner.inside.seat.me.0 c.args.owner final.1.0 final.1.1 owner same (ap (λ (p : OwnerView). p.seen) c.owner.view_is))
