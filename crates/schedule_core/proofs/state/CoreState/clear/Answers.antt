use Rattle.std.proofs.Common.{◌<◌, ap, sym, subst, ◌∙◌}
use Rattle.level_table.specs.Levels.{Table}
use Rattle.schedule_core.specs.Frame.{NamedRow, rows_of}
use Rattle.schedule_core.specs.Core.{Core, IsValid, cleared}
use Rattle.schedule_core.proofs.Events.{clear_valid, owner_works}
use Rattle.schedule_core.proofs.Kept.{core_cleared, row_there, worker_there}
use Rattle.schedule_core.proofs.state.CoreState.clear.Goals as goal

pub see-requires-clause-row : goal.see-requires-clause-row
see-requires-clause-row c =
    let works = (owner_works _ c.self.invariant.1).0 in
    let within = subst (λ (x : Core). c.args.row < rows_of x.frame) (sym c.self.view_is) c.requires.row in
    row_there c.self.inside.problem c.self.inside.start.value c.self.inside.words c.self.inside.seen.items c.self.inside.notes.list 0 c.args.row c.self.invariant.1 works within

pub invariant_of-self : goal.invariant_of-self
invariant_of-self c =
    let works = (owner_works _ c.self.invariant.1).0 in
    let within = subst (λ (x : Core). c.args.row < rows_of x.frame) (sym c.self.view_is) c.requires.row in
    let here = worker_there c.self.inside.problem c.self.inside.start.value c.self.inside.words c.self.inside.seen.items c.self.inside.notes.list 0 works in
    let named = subst (λ (x : Core). NamedRow x.frame x.notes c.args.row) (sym c.self.view_is) c.requires.named in
    let is = core_cleared c.self.inside.problem c.self.inside.start.value c.self.inside.words c.set.new.self c.self.inside.seen.items c.see.new.seen.items c.self.inside.notes.list c.args.row here c.see.ensures (ap (λ (t : Table). t.levels) c.set.ensures) in
    (c.self.invariant.0, subst IsValid (sym is) (clear_valid _ c.args.row c.self.invariant.0 c.self.invariant.1 within named), ap (λ (t : Table). t.states) c.set.ensures ∙ c.self.invariant.2, ap (λ (t : Table). t.directions) c.set.ensures ∙ c.self.invariant.3, c.self.invariant.4)

pub returns : goal.returns
returns c =
    let works = (owner_works _ c.self.invariant.1).0 in
    let here = worker_there c.self.inside.problem c.self.inside.start.value c.self.inside.words c.self.inside.seen.items c.self.inside.notes.list 0 works in
    let is = core_cleared c.self.inside.problem c.self.inside.start.value c.self.inside.words c.set.new.self c.self.inside.seen.items c.see.new.seen.items c.self.inside.notes.list c.args.row here c.see.ensures (ap (λ (t : Table). t.levels) c.set.ensures) in
    is ∙ ap (λ (x : Core). cleared x c.args.row) c.self.view_is
