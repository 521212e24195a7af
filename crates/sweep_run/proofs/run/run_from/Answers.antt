use Rattle.std.proofs.Common.{◌∙◌, refl, sym, subst, ap, length}
use Rattle.level_table.specs.Levels.{Table, levels_in}
use Rattle.level_table.specs.Problem.{IsProblem, Problem, problem_of}
use Rattle.level_table.specs.Tables.{IsSmallTable}
use Rattle.sweep_run.specs.Runs.{IsRunning}
use Rattle.sweep_run.proofs.Ends.{if_ok, run_of_ends, running_same, running_start}
use Rattle.sweep_run.proofs.run.run_from.Goals as goal

pub returns : goal.returns
returns g c =
    let p : Problem = problem_of c.args.game.now c.args.dirs.now c.args.set.now.grid in
    let w = c.in_ok-w.w in
    let told = c.in_ok-w.ensures in
    let start = c.args.start in
    let notes = c.args.notes.list in
    let slack = c.args.set.now.slack in
    let ok : IsProblem p = subst IsProblem told.problem told.sweeper.frame.problem in
    let began : IsRunning p (levels_in start) notes slack 0 w.scratch.levels w.owner.notes =
    running_same (levels_in start) notes slack 0 p p start w.scratch.levels notes w.owner.notes refl told.levels told.notes (running_start p start notes slack ok c.requires.start c.requires.table) in
    if_ok c.make_run.result _ _
    (λ r h. run_of_ends p (levels_in start) notes slack c.args.set.now.budget c.from.result w r ok c.requires.start.bounds (subst (IsSmallTable p) (sym told.levels) c.requires.table) told.problem began h
    (c.from.ensures ∙ c.rows.ensures ∙ sym (ap (λ (t : Table). length t.levels) told.levels)))
    c.make_run.ensures
