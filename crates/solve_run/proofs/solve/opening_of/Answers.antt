use Rattle.std.proofs.Common.{◌≡◌, ℕ, ◌*◌, ap, ◌∙◌, subst}
use Rattle.game_model.specs.Game.{states}
use Rattle.level_table.specs.Problem.{IsProblem, Problem, problem_of}
use Rattle.level_table.proofs.Numbers.{small_opening}
use Rattle.solve_run.proofs.solve.opening_of.Goals as goal

pub returns-in-Ok-clause-small : goal.returns-in-Ok-clause-small
returns-in-Ok-clause-small c =
    let p : Problem = problem_of c.args.game.now c.args.dirs.now c.args.grid in
    small_opening p c.in-Ok.levels (subst IsProblem c.new-problem.ensures.problem c.new-problem.ensures.is_problem) c.in-Ok.ensures.opened

pub returns-in-Ok-clause-rows : goal.returns-in-Ok-clause-rows
returns-in-Ok-clause-rows c =
    let t = c.in-Ok.levels in
    let sizes = c.in-Ok.ensures.opened.sizes in
    c.states.ensures.whole.one_each ∙ ap (λ (n : ℕ). n * t.directions) sizes.states_agree ∙ ap (λ (n : ℕ). states c.args.game.now * n) sizes.directions_agree
