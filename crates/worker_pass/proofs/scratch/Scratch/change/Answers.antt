use Rattle.std.proofs.Common.{refl, sym, subst, ◌∙◌}
use Rattle.std.proofs.lemmas.List.{length-set}
use Rattle.level_table.specs.Levels.{Table, levels_in}
use Rattle.schedule_core.specs.Frame.{with_level}
use Rattle.worker_pass.specs.Scratches.{IsScratch}
use Rattle.worker_pass.proofs.Ready.{keeps_axes, small_after, still_ready}
use Rattle.worker_pass.proofs.scratch.Scratch.change.Goals as goal

pub returns-else-not-keeps_axes-clause-scratch : goal.returns-else-not-keeps_axes-clause-scratch
returns-else-not-keeps_axes-clause-scratch c =
    let p = c.args.p.now in
    let w = c.args.self.now in
    let t = w.levels in
    let u : Table = with_level t c.args.row c.args.level in
    subst (λ (x : Table). IsScratch p (record { levels = x; note = w.note; prepared = w.prepared; ready = w.ready; hints = w.hints })) (sym c.set.ensures)
    (record {
      table = small_after p t c.args.row c.args.level c.requires.scratch.table c.requires.row c.requires.small;
      room = c.requires.scratch.room;
      note = c.requires.scratch.note;
      hints = c.requires.scratch.hints ∙ sym (length-set t.levels c.args.row c.args.level);
      ready = still_ready p (levels_in t) (levels_in u) w.prepared w.ready
          (c.stays_prepared.ensures p (levels_in t) (levels_in u) w.prepared c.rules.ensures (keeps_axes p t c.args.row c.args.old c.args.level c.requires.scratch.table c.requires.row c.requires.old (c.if-not-keeps_axes.ensures refl))) c.requires.scratch.ready;
    })
