use Rattle.std.proofs.Common.{subst}
use Rattle.level_table.specs.Problem.{problem_of}
use Rattle.level_table.specs.Tables.{HasSmallOpening}
use Rattle.solve_run.proofs.solve.report_on.Goals as goal

pub returns-in-Ok-clause-small : goal.returns-in-Ok-clause-small
returns-in-Ok-clause-small g c = subst (λ d. HasSmallOpening (problem_of c.args.game.now d c.args.set.now.grid)) c.directions-dirs.ensures.table c.in_ok-start.ensures.small
