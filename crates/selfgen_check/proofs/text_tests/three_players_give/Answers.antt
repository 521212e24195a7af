use Rattle.std.proofs.Common.{sym, subst}
use Rattle.game_model.specs.Parts.{KeepLimits}
use Rattle.selfgen_check.proofs.Givers.{givers_keep_limits}
use Rattle.selfgen_check.proofs.text_tests.three_players_give.Goals as goal

pub build-requires : goal.build-requires
build-requires g c = subst KeepLimits (sym c.in_ok-givers.ensures) givers_keep_limits
