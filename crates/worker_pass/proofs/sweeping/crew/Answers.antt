use Rattle.std.proofs.Common.{◌≡◌, ◌++◌, ◌∷◌, [], All, sym, subst, arith}
use Rattle.std.proofs.lemmas.List.Elements.{All-push}
use Rattle.level_board.proofs.Moments.{fallen_trans}
use Rattle.schedule_core.specs.Frame.{IsFallen}
use Rattle.worker_pass.specs.Work.{IsWorkerOf}
use Rattle.worker_pass.proofs.sweeping.crew.Goals as goal

pub loop-number-preserved : goal.loop-number-preserved
loop-number-preserved c =
    let inv = c.loop-number.invariant in
    let w = c.in_ok-worker.worker in
    let ws = c.loop-number.workers.items in
    let seen = c.split-first.new.owner.seen in
    let items : c.push.new.self.items ≡ ws ++ w ∷ [] = (c.in_ok-push.ensures {u = tt}).items in
    record {
      first = c.in_ok-worker.ensures.other;
      fell = fallen_trans seen c.loop-number.first.seen c.hire.new.other.seen inv.fell c.in_ok-worker.ensures.fell;
      workers = subst (All (IsWorkerOf c.args.board.now)) (sym items) (All-push (IsWorkerOf c.args.board.now) ws w inv.workers c.in_ok-worker.ensures.worker);
      below = subst (All (λ x. IsFallen seen x.pass.seen)) (sym items) (All-push (λ x. IsFallen seen x.pass.seen) ws w inv.below (fallen_trans seen c.loop-number.first.seen w.pass.seen inv.fell c.in_ok-worker.ensures.copy));
      len = omega (arith, (c.in_ok-push.ensures {u = tt}).len, inv.len);
    }
