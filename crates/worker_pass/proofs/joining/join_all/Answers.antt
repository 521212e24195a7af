use Rattle.std.proofs.Common.{◌≡◌, inl, inr, ℕ, slice_index_or, sym, ap, subst, ◌∙◌, below_more, arith}
use Rattle.std.proofs.lemmas.Bool.{cases_eq}
use Rattle.std.proofs.lemmas.List.{get_or-set_same, get_or-set_other, get_or_default}
use Rattle.level_board.proofs.Moments.{fallen_trans}
use Rattle.schedule_core.specs.Frame.{IsFallen}
use Rattle.worker_pass.specs.declared.working.Worker.{Worker}
use Rattle.worker_pass.specs.Work.{IsWorkerOf}
use Rattle.worker_pass.proofs.Falling.{each_set}
use Rattle.worker_pass.proofs.joining.join_all.Goals as goal

pub loop-i-preserved : goal.loop-i-preserved
loop-i-preserved c =
    let inv = c.loop-i.invariant in
    let ws = c.loop-i.workers.items in
    let old = c.args.workers.now.items in
    let new = c.take_in.new.worker in
    let i = c.loop-i.i in
    record {
      owner = c.take_in.ensures.owner;
      workers = each_set (IsWorkerOf c.args.board.now) ws i new inv.workers c.take_in.ensures.worker;
      len = inv.len;
      done = λ j d. elim (cases_eq j i) [
        | inl e ↦ subst (λ (k : ℕ). (slice_index_or (Rattle.std.proofs.Common.set ws i new) k d).done ≡ (slice_index_or old k d).done) (sym e)
            (ap (λ (w : Worker). w.done) (get_or-set_same ws i new d (omega arith)) ∙ c.take_in.ensures.done ∙ ap (λ (w : Worker). w.done) (c.index_mut.ensures.value ∙ get_or_default ws i _ d (omega arith)) ∙ inv.done i d)
        | inr ne ↦ ap (λ (w : Worker). w.done) (get_or-set_other ws i j new d ne) ∙ inv.done j d
      ];
      fell = fallen_trans c.args.owner.now.seen c.loop-i.owner.seen c.take_in.new.owner.seen inv.fell c.take_in.ensures.fell;
      notes = c.take_in.ensures.notes ∙ inv.notes;
      later = λ j d from. get_or-set_other ws i j new d (λ e. omega (arith, from, e)) ∙ inv.later j d (omega (arith, from));
      taken = λ j d. below_more (λ (k : ℕ). IsFallen (slice_index_or old k d).pass.seen c.take_in.new.owner.seen) i
          (λ k before. fallen_trans _ c.loop-i.owner.seen c.take_in.new.owner.seen (inv.taken k d before) c.take_in.ensures.fell)
          (subst (λ (w : Worker). IsFallen w.pass.seen c.take_in.new.owner.seen) (c.index_mut.ensures.value ∙ get_or_default ws i _ d (omega arith) ∙ inv.later i d (omega arith)) c.take_in.ensures.taken) j;
    }
