use Rattle.std.proofs.Common.{inl, inr, ℕ, ◌<◌, length, slice_index_or, arith}
use Rattle.level_board.proofs.Moments.{fallen_trans}
use Rattle.schedule_core.specs.Frame.{IsFallen, IsFrame}
use Rattle.worker_pass.specs.declared.working.Worker.{Worker}
use Rattle.worker_pass.proofs.Falling.{fallen_below, fallen_to, some_item, fallen_self}
use Rattle.worker_pass.proofs.Works.{passed_fallen}
use Rattle.worker_pass.proofs.joining.lower_rows.Goals as goal

pub returns-clause-passed : goal.returns-clause-passed
returns-clause-passed g c = λ above below r known.
    let f = c.args.board.now.frame in
    let ok : IsFrame f = c.rules.ensures in
    let old = c.args.owner.now.seen in
    let drawn : IsFallen old c.draw_owner-base.new.owner.seen = fallen_to old old c.draw_owner-base.new.owner.seen c.draw_owner-base.ensures.seen (fallen_self old) in
    let joined : IsFallen old c.join_all.new.owner.seen = fallen_trans old c.draw_owner-base.new.owner.seen c.join_all.new.owner.seen drawn c.join_all.ensures.fell in
    elim (c.finish_rows.ensures.passed above (fallen_below f.problem old c.join_all.new.owner.seen above joined below) r known) [
      | inl m ↦
          let mine = c.join_all.ensures.marks r m in
          let i : ℕ = mine.0 in
          let d : Worker = some_item c.work_all.new.workers.items i mine.1 in
          let inside : i < length c.args.workers.now.items = omega (arith, mine.1, c.work_all.ensures.len) in
          let did = c.work_all.ensures.did i d (omega (arith, inside)) in
          let here = did.marks above (fallen_below f.problem old (slice_index_or c.args.workers.now.items i d).pass.seen above (c.requires.below i d inside) below) r known (mine.2 d) in
          passed_fallen f above (slice_index_or c.work_all.new.workers.items i d).pass.seen c.finish_rows.new.owner.seen r ok known
          (fallen_trans _ c.join_all.new.owner.seen c.finish_rows.new.owner.seen (c.join_all.ensures.taken i d mine.1) c.finish_rows.ensures.fell) here
      | inr p ↦ p
    ]
