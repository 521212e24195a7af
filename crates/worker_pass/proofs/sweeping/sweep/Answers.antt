use Rattle.std.proofs.Common.{◌≡◌, ◌∙◌}
use Rattle.level_board.specs.Board.{BoardId, OwnerView}
use Rattle.level_board.proofs.Moments.{fallen_trans}
use Rattle.schedule_core.specs.Frame.{IsFallen}
use Rattle.worker_pass.proofs.Falling.{seen_on}
use Rattle.worker_pass.proofs.States.{AreMarkedOff, cleared_but_first, cleared_fallen, marked_off}
use Rattle.worker_pass.proofs.Swept.{sweep_made}
use Rattle.worker_pass.proofs.Works.{passed_fallen}
use Rattle.worker_pass.proofs.sweeping.sweep.Goals as goal

pub returns-clause-cleared : goal.returns-clause-cleared
returns-clause-cleared g c =
    cleared_but_first c.args.board.now.frame c.clear_states-cleared.new.owner.notes c.renew_passes.new.owner.notes c.clear_states-cleared.new.owner.seen c.renew_passes.new.owner.seen
    c.renew_passes.ensures.notes c.renew_passes.ensures.seen c.clear_states-cleared.ensures.cleared

pub returns-clause-swept : goal.returns-clause-swept
returns-clause-swept g c =
    let b : BoardId = c.args.board.now in
    let f = b.frame in
    let o : OwnerView = c.args.owner.now in
    let l : OwnerView = c.load_all.new.owner in
    let m : OwnerView = c.clear_states-cleared.new.owner in
    let fell : IsFallen o.seen l.seen = fallen_trans o.seen c.lower_rows.new.owner.seen l.seen c.lower_rows.ensures.fell c.load_all.ensures.fell in
    let notes : l.notes ≡ o.notes = c.load_all.ensures.notes ∙ c.lower_rows.ensures.notes in
    let l_marked : AreMarkedOff f l.notes l.seen = marked_off b l c.rules.ensures c.load_all.ensures.owner c.rules-3.ensures.seen c.rules-3.ensures.named (cleared_fallen f o.notes l.notes o.seen l.seen notes fell c.requires.cleared) in
    let m_marked : AreMarkedOff f m.notes m.seen = marked_off b m c.rules.ensures c.clear_states-cleared.ensures.owner c.rules-4.ensures.seen c.rules-4.ensures.named c.clear_states-cleared.ensures.cleared in
    sweep_made f o l m c.renew_passes.new.owner c.clear_states-cleared.new.scratch.levels _ c.rules.ensures fell notes (seen_on _ _ _ c.load_all.ensures.owner c.rules-3.ensures.seen) l_marked
    (λ above below r known. passed_fallen f above c.lower_rows.new.owner.seen l.seen r c.rules.ensures known c.load_all.ensures.fell (c.lower_rows.ensures.passed above below r known))
    c.clear_states-cleared.ensures.fell c.clear_states-cleared.ensures.clearing c.clear_states-cleared.ensures.noted c.clear_states-cleared.ensures.dead c.clear_states-cleared.ensures.notes
    (seen_on _ _ _ c.clear_states-cleared.ensures.owner c.rules-4.ensures.seen) m_marked c.clear_states-cleared.ensures.same c.renew_passes.ensures.notes c.renew_passes.ensures.seen
