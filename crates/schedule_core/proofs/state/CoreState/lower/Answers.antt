use Rattle.std.proofs.Common.{◌≡◌, ◌<◌, ap, sym, subst, ◌∙◌, w64, arith}
use Rattle.std.specs.Prelude.{ℤ}
use Rattle.std.proofs.lemmas.Int.{ints}
use mir.Val.{to_z, of_z, SFits}
use Rattle.level_table.specs.declared.level.Level.TheVariants.{At}
use Rattle.level_table.specs.Levels.{Table, lesser}
use Rattle.schedule_core.specs.Frame.{IsRowLevelOf, rows_of}
use Rattle.schedule_core.specs.Core.{Core, IsValid, IsWorking, lowered, seen_by}
use Rattle.schedule_core.proofs.Events.{lower_valid}
use Rattle.schedule_core.proofs.Kept.{core_lowered, row_there, worker_there}
use Rattle.schedule_core.proofs.state.CoreState.lower.Goals as goal

same_number : (x : ℤ) → SFits w64 x → to_z w64 (of_z w64 x) ≡ x
same_number x fits = omega (arith, ints)

pub see-requires-clause-row : goal.see-requires-clause-row
see-requires-clause-row c =
    let works = subst (λ (x : Core). IsWorking x c.args.w) (sym c.self.view_is) c.requires.works in
    let within = subst (λ (x : Core). c.args.row < rows_of x.frame) (sym c.self.view_is) c.requires.row in
    row_there c.self.inside.problem c.self.inside.start.value c.self.inside.words c.self.inside.seen.items c.self.inside.notes.list c.args.w c.args.row c.self.invariant.1 works within

pub invariant_of-self : goal.invariant_of-self
invariant_of-self c =
    let works = subst (λ (x : Core). IsWorking x c.args.w) (sym c.self.view_is) c.requires.works in
    let within = subst (λ (x : Core). c.args.row < rows_of x.frame) (sym c.self.view_is) c.requires.row in
    let here = worker_there c.self.inside.problem c.self.inside.start.value c.self.inside.words c.self.inside.seen.items c.self.inside.notes.list c.args.w works in
    let level = subst (λ (x : Core). IsRowLevelOf x.frame (seen_by x c.args.w) c.args.row (At c.args.level)) (sym c.self.view_is) c.requires.level in
    let new = c.lesser-new.ensures ∙ (λ i. lesser (c.get.ensures i) (At (same_number c.args.level c.ranges.level i))) in
    let is = core_lowered c.self.inside.problem c.self.inside.start.value c.self.inside.words c.set.new.self c.self.inside.seen.items c.see.new.seen.items c.self.inside.notes.list c.args.w c.args.row c.args.level c.lesser-new.result here c.see.ensures new (ap (λ (t : Table). t.levels) c.set.ensures) in
    (c.self.invariant.0, subst IsValid (sym is) (lower_valid _ c.args.w c.args.row c.args.level c.self.invariant.0 c.self.invariant.1 works within level), ap (λ (t : Table). t.states) c.set.ensures ∙ c.self.invariant.2, ap (λ (t : Table). t.directions) c.set.ensures ∙ c.self.invariant.3, c.self.invariant.4)

pub returns : goal.returns
returns c =
    let works = subst (λ (x : Core). IsWorking x c.args.w) (sym c.self.view_is) c.requires.works in
    let here = worker_there c.self.inside.problem c.self.inside.start.value c.self.inside.words c.self.inside.seen.items c.self.inside.notes.list c.args.w works in
    let new = c.lesser-new.ensures ∙ (λ i. lesser (c.get.ensures i) (At (same_number c.args.level c.ranges.level i))) in
    let is = core_lowered c.self.inside.problem c.self.inside.start.value c.self.inside.words c.set.new.self c.self.inside.seen.items c.see.new.seen.items c.self.inside.notes.list c.args.w c.args.row c.args.level c.lesser-new.result here c.see.ensures new (ap (λ (t : Table). t.levels) c.set.ensures) in
    is ∙ ap (λ (x : Core). lowered x c.args.w c.args.row (At c.args.level)) c.self.view_is
