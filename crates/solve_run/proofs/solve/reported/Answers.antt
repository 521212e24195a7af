use Rattle.std.proofs.Common.{◌≡◌, ◌∙◌, ap, subst}
use Rattle.game_model.specs.Game.{states}
use Rattle.level_table.specs.Problem.{IsProblem, Problem, direction_count, problem_of}
use Rattle.solve_run.proofs.Reporting.{report_prints}
use Rattle.solve_run.proofs.solve.reported.Goals as goal

pub returns-clause-printable : goal.returns-clause-printable
returns-clause-printable g c =
    let p : Problem = problem_of c.args.game.now c.args.dirs.now c.args.set.now.grid in
    let is : c.new-p.result ≡ p = c.new-p.ensures.problem in
    report_prints p c.args.set.now.slack c.args.set.now.budget _ (subst IsProblem is c.new-p.ensures.is_problem)
    (c.players.ensures ∙ ap (λ (q : Problem). q.game.players) is) (c.states.ensures ∙ ap (λ (q : Problem). states q.game) is) (c.directions.ensures ∙ ap direction_count is)
    c.in_ok-run.ensures.run c.in_ok-discounts.ensures.count c.in_ok-discounts.ensures.positive _ c.in_ok-inner.ensures
