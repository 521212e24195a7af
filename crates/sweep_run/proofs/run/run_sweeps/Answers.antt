use Rattle.std.proofs.Common.{◌∙◌, [], refl, sym, subst, ap, length}
use Rattle.level_table.specs.Iterates.{drop_of}
use Rattle.level_table.specs.Levels.{Table, levels_in, opening_table}
use Rattle.level_table.specs.Problem.{IsProblem, Problem, problem_of}
use Rattle.level_table.specs.Tables.{IsSmallTable}
use Rattle.bound_laws.proofs.Start.{opening_has_bounds}
use Rattle.schedule_core.specs.Frame.{IsOpened, frame_from}
use Rattle.sweep_run.specs.Runs.{IsRunning}
use Rattle.sweep_run.specs.Sweeper.{problem_in}
use Rattle.sweep_run.proofs.Ends.{if_ok, opening_dropped, opening_sound, run_of_ends, running_opening, running_same}
use Rattle.sweep_run.proofs.run.run_sweeps.Goals as goal

pub new-requires-clause-start : goal.new-requires-clause-start
new-requires-clause-start g c =
    subst (IsOpened (frame_from c.args.game.now c.args.dirs.now c.args.set.now.grid c.args.opening)) (sym c.in_ok-notes.ensures.none)
    (c.opening_is_opened.ensures (frame_from c.args.game.now c.args.dirs.now c.args.set.now.grid c.args.opening) (subst IsProblem c.new-law.ensures.problem c.new-law.ensures.is_problem) c.states.ensures.whole c.requires.opening)

pub returns-clause-run : goal.returns-clause-run
returns-clause-run g c =
    let p : Problem = problem_of c.args.game.now c.args.dirs.now c.args.set.now.grid in
    let w = c.in_ok-w.w in
    let told = c.in_ok-w.ensures in
    let start = c.args.opening in
    let slack = c.args.set.now.slack in
    let ok : IsProblem p = subst IsProblem told.problem told.sweeper.frame.problem in
    let began : IsRunning p (opening_table p) [] slack 0 w.scratch.levels w.owner.notes =
    running_same (opening_table p) [] slack 0 p p start w.scratch.levels [] w.owner.notes refl told.levels (told.notes ∙ c.in_ok-notes.ensures.none) (running_opening p start slack ok c.states.ensures.whole c.requires.opening) in
    if_ok c.make_run.result _ _
    (λ r h. run_of_ends p (opening_table p) [] slack c.args.set.now.budget c.from.result w r ok (opening_has_bounds p ok)
    (subst (IsSmallTable p) (sym told.levels) (opening_sound p start ok c.states.ensures.whole c.requires.opening).table) told.problem began h
    (c.from.ensures ∙ c.rows.ensures ∙ sym (ap (λ (t : Table). length t.levels) told.levels)))
    c.make_run.ensures

pub returns-clause-drop : goal.returns-clause-drop
returns-clause-drop g c =
    let p : Problem = problem_of c.args.game.now c.args.dirs.now c.args.set.now.grid in
    let w = c.in_ok-w.w in
    let told = c.in_ok-w.ensures in
    let start = c.args.opening in
    let slack = c.args.set.now.slack in
    let ok : IsProblem p = subst IsProblem told.problem told.sweeper.frame.problem in
    let began : IsRunning (problem_in w) (opening_table p) [] slack 0 w.scratch.levels w.owner.notes =
    running_same (opening_table p) [] slack 0 p (problem_in w) start w.scratch.levels [] w.owner.notes told.problem told.levels (told.notes ∙ c.in_ok-notes.ensures.none) (running_opening p start slack ok c.states.ensures.whole c.requires.opening) in
    if_ok c.make_run.result _ _
    (λ r h. opening_dropped p r.sweeps (drop_of p (opening_table p) (levels_in r.levels)) ok
    (subst (λ (q : Problem). IsRunning q (opening_table p) [] slack r.sweeps r.levels r.notes.list) told.problem (h.running (opening_table p) [] began)).dropped)
    c.make_run.ensures
