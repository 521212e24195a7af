use Rattle.std.proofs.Common.{sym, subst}
use Rattle.game_model.specs.Parts.{KeepLimits}
use Rattle.game_model.proofs.Dilemma.{dilemma_keeps_limits}
use Rattle.level_table.specs.Problem.{IsProblem}
use Rattle.level_table.proofs.Numbers.{small_opening}
use Rattle.sweep_run.proofs.tests.workers_come_down_to_the_table_of_the_owner_alone.Goals as goal

pub build-requires : goal.build-requires
build-requires g c = subst KeepLimits (sym c.in_ok-parts.ensures) dilemma_keeps_limits

pub settled-requires-clause-opening : goal.settled-requires-clause-opening
settled-requires-clause-opening g c = λ lives. small_opening _ c.in_ok-start.start (subst IsProblem c.new-law.ensures.problem c.new-law.ensures.is_problem) (c.in_ok-start.ensures {u = tt}).opened
