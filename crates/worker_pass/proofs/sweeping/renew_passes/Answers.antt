use Rattle.std.proofs.Common.{inl, inr, ℕ, slice_index_or, set, sym, subst, arith}
use Rattle.std.proofs.lemmas.Bool.{cases_eq}
use Rattle.std.proofs.lemmas.List.{get_or-set_same, get_or-set_other}
use Rattle.level_board.proofs.Moments.{fallen_trans}
use Rattle.schedule_core.specs.Frame.{IsFallen}
use Rattle.worker_pass.specs.declared.working.Worker.{Worker}
use Rattle.worker_pass.specs.Work.{IsWorkerOf}
use Rattle.worker_pass.proofs.Falling.{each_set}
use Rattle.worker_pass.proofs.sweeping.renew_passes.Goals as goal

pub loop-i-preserved : goal.loop-i-preserved
loop-i-preserved c =
    let inv = c.loop-i.invariant in
    let ws = c.loop-i.workers.items in
    let i = c.loop-i.i in
    let new = c.copy_to.new.worker in
    let seen = c.split-first.new.owner.seen in
    record {
      first = c.copy_to.ensures.other;
      workers = each_set (IsWorkerOf c.args.board.now) ws i new inv.workers c.copy_to.ensures.worker;
      len = inv.len;
      fell = fallen_trans seen c.loop-i.first.seen c.copy_to.new.other.seen inv.fell c.copy_to.ensures.fell;
      copied = λ j d before. elim (cases_eq j i) [
        | inl e ↦ subst (λ (k : ℕ). IsFallen seen (slice_index_or (set ws i new) k d).pass.seen) (sym e)
            (subst (λ (w : Worker). IsFallen seen w.pass.seen) (sym (get_or-set_same ws i new d (omega arith))) (fallen_trans seen c.loop-i.first.seen new.pass.seen inv.fell c.copy_to.ensures.copy))
        | inr ne ↦ subst (λ (w : Worker). IsFallen seen w.pass.seen) (sym (get_or-set_other ws i j new d ne)) (inv.copied j d (omega (arith, before, ne)))
      ];
    }
