use Rattle.std.proofs.Common.{◌≡◌, sym, ap, subst, ◌∙◌, refl}
use Rattle.std.specs.Prelude.{pos}
use Rattle.level_table.specs.Problem.{IsProblem, Problem, problem_of}
use Rattle.level_table.specs.Levels.{opening_table}
use Rattle.make_run.specs.Opening.{HasTinyOpening, budget_of}
use Rattle.make_run.proofs.Openings.{budget_is_enough, opening_is_even, opening_is_tiny}
use Rattle.make_run.proofs.solving.greatest.Goals as goal

pub budget-requires-clause-tiny : goal.budget-requires-clause-tiny
budget-requires-clause-tiny g c =
    let ok = subst IsProblem c.new-p.ensures.problem c.new-p.ensures.is_problem in
    subst HasTinyOpening (sym c.new-p.ensures.problem) (opening_is_tiny c.args.game.now c.args.dirs.now c.requires.game ok)

pub returns-clause-greatest : goal.returns-clause-greatest
returns-clause-greatest g c =
    let p : Problem = problem_of c.args.game.now c.args.dirs.now 4 in
    let ok : IsProblem p = subst IsProblem c.new-p.ensures.problem c.new-p.ensures.is_problem in
    let budget : pos c.budget.result ≡ budget_of p = c.budget.ensures ∙ ap budget_of c.new-p.ensures.problem in
    let zero = c.drop_grows.ensures.start p (opening_table p) ok (opening_is_even p) in
    c.in_ok-run.ensures.run.greatest refl (c.in_ok-run.ensures.run.enough (budget_is_enough p c.budget.result budget zero))
