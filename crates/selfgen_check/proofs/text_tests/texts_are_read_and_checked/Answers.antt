use Rattle.std.proofs.Common.{sym, subst}
use Rattle.game_model.specs.Parts.{KeepLimits}
use Rattle.game_model.proofs.Dilemma.{dilemma_keeps_limits}
use Rattle.selfgen_check.proofs.text_tests.texts_are_read_and_checked.Goals as goal

pub build-requires : goal.build-requires
build-requires g c = subst KeepLimits (sym c.in_ok-dilemma.ensures) dilemma_keeps_limits
