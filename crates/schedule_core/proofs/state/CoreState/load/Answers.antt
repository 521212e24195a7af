use Rattle.std.proofs.Common.{◌<◌, ap, sym, subst, ◌∙◌}
use Rattle.schedule_core.specs.Frame.{rows_of}
use Rattle.schedule_core.specs.Core.{Core, IsValid, IsWorking, loaded}
use Rattle.schedule_core.proofs.Events.{load_valid}
use Rattle.schedule_core.proofs.Kept.{core_loaded, row_there, worker_there}
use Rattle.schedule_core.proofs.state.CoreState.load.Goals as goal

pub see-requires-clause-row : goal.see-requires-clause-row
see-requires-clause-row c =
    let works = subst (λ (x : Core). IsWorking x c.args.w) (sym c.self.view_is) c.requires.works in
    let within = subst (λ (x : Core). c.args.row < rows_of x.frame) (sym c.self.view_is) c.requires.row in
    row_there c.self.inside.problem c.self.inside.start.value c.self.inside.words c.self.inside.seen.items c.self.inside.notes.list c.args.w c.args.row c.self.invariant.1 works within

pub invariant_of-self : goal.invariant_of-self
invariant_of-self c =
    let works = subst (λ (x : Core). IsWorking x c.args.w) (sym c.self.view_is) c.requires.works in
    let within = subst (λ (x : Core). c.args.row < rows_of x.frame) (sym c.self.view_is) c.requires.row in
    let here = worker_there c.self.inside.problem c.self.inside.start.value c.self.inside.words c.self.inside.seen.items c.self.inside.notes.list c.args.w works in
    let is = core_loaded c.self.inside.problem c.self.inside.start.value c.self.inside.words c.self.inside.seen.items c.see.new.seen.items c.self.inside.notes.list c.args.w c.args.row c.get-level.result here c.see.ensures c.get-level.ensures in
    (c.self.invariant.0, subst IsValid (sym is) (load_valid _ c.args.w c.args.row c.self.invariant.1 works within), c.self.invariant.2, c.self.invariant.3, c.self.invariant.4)

pub returns : goal.returns
returns c =
    let works = subst (λ (x : Core). IsWorking x c.args.w) (sym c.self.view_is) c.requires.works in
    let here = worker_there c.self.inside.problem c.self.inside.start.value c.self.inside.words c.self.inside.seen.items c.self.inside.notes.list c.args.w works in
    let is = core_loaded c.self.inside.problem c.self.inside.start.value c.self.inside.words c.self.inside.seen.items c.see.new.seen.items c.self.inside.notes.list c.args.w c.args.row c.get-level.result here c.see.ensures c.get-level.ensures in
    is ∙ ap (λ (x : Core). loaded x c.args.w c.args.row) c.self.view_is
