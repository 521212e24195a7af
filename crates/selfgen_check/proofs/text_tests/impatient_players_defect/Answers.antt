use Rattle.std.proofs.Common.{sym, subst}
use Rattle.game_model.specs.Parts.{KeepLimits}
use Rattle.selfgen_check.proofs.Dilemma.{impatient_keeps_limits}
use Rattle.selfgen_check.proofs.text_tests.impatient_players_defect.Goals as goal

pub build-requires : goal.build-requires
build-requires g c = subst KeepLimits (sym c.in_ok-dilemma.ensures) impatient_keeps_limits
