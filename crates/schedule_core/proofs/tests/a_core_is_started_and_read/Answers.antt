use Rattle.std.proofs.Common.{sym, subst}
use Rattle.game_model.specs.Parts.{KeepLimits}
use Rattle.game_model.proofs.Dilemma.{dilemma_keeps_limits}
use Rattle.schedule_core.proofs.tests.a_core_is_started_and_read.Goals as goal

pub build-requires : goal.build-requires
build-requires g c = subst KeepLimits (sym c.in_ok-parts.ensures) dilemma_keeps_limits
