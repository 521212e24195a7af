use Rattle.std.proofs.Common.{sym, subst}
use Rattle.game_model.specs.Parts.{KeepLimits}
use Rattle.game_model.proofs.Dilemma.{dilemma_keeps_limits}
use Rattle.worker_pass.proofs.tests.a_pass_updates_under_what_another_lowered.Goals as goal

pub build-requires : goal.build-requires
build-requires g c = subst KeepLimits (sym c.in_ok-parts.ensures) dilemma_keeps_limits
