use Rattle.std.proofs.Common.{◌≡◌, ap, sym, subst, ◌∙◌}
use Rattle.level_table.specs.Levels.{Table}
use Rattle.level_table.specs.Problem.{IsProblem, Problem, problem_of}
use Rattle.schedule_core.specs.Frame.{Frame, IsFrame}
use Rattle.schedule_core.specs.Core.{IsValid}
use Rattle.schedule_core.specs.Room.{HasRoom}
use Rattle.schedule_core.proofs.Kept.{core_started}
use Rattle.schedule_core.proofs.Opening.{frame_opened, start_valid}
use Rattle.schedule_core.proofs.state.CoreState.start.Goals as goal

pub invariant_of-result : goal.invariant_of-result
invariant_of-result c =
    let f : Frame = record { problem = problem_of c.args.game.now c.args.dirs.now c.args.grid; start = c.args.opening.now } in
    let problem = c.new-problem.ensures.problem in
    let copy = c.in_ok-words.ensures {u = tt} in
    let frame = frame_opened f c.args.notes.list (subst IsProblem problem c.new-problem.ensures.is_problem) c.states.ensures.whole c.requires.start in
    let is = core_started c.new-problem.result f.problem c.of.result.value f.start c.in_ok-words.words c.in_ok-seen.seen.items c.args.notes.list c.args.workers problem c.of.ensures copy (c.in_ok-seen.ensures {u = tt}) c.requires.workers in
    let same : f ≡ record { problem = c.new-problem.result; start = c.of.result.value } = λ i. record { problem = sym problem i; start = sym c.of.ensures i } in (
      subst IsFrame same frame,
      subst IsValid (sym is) (start_valid f _ c.args.notes.list frame c.requires.start),
      ap (λ (t : Table). t.states) (copy ∙ sym c.of.ensures),
      ap (λ (t : Table). t.directions) (copy ∙ sym c.of.ensures),
      subst (λ (p : Problem). HasRoom p.game c.args.notes) (sym problem) c.requires.room,
    )

pub returns : goal.returns
returns c = record {
  core = core_started c.new-problem.result _ c.of.result.value _ c.in_ok-words.words c.in_ok-seen.seen.items c.args.notes.list c.args.workers c.new-problem.ensures.problem c.of.ensures (c.in_ok-words.ensures {u = tt}) (c.in_ok-seen.ensures {u = tt}) c.requires.workers;
}
