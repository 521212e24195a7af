use Rattle.std.proofs.Common.{sym, subst}
use Rattle.game_model.specs.Parts.{KeepLimits}
use Rattle.game_model.proofs.Dilemma.{dilemma_keeps_limits}
use Rattle.sweep_run.proofs.tests.the_dilemma_comes_down.Goals as goal

pub build-requires : goal.build-requires
build-requires g c = subst KeepLimits (sym c.in_ok-parts.ensures) dilemma_keeps_limits
