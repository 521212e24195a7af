use Rattle.std.proofs.Common.{sym, subst}
use Rattle.game_model.specs.Parts.{KeepLimits}
use Rattle.level_board.proofs.Games.{one_keeps_limits}
use Rattle.level_board.proofs.tests.passes_load_draw_split_and_join.Goals as goal

pub build-requires : goal.build-requires
build-requires g c = subst KeepLimits (sym c.in_ok-parts.ensures) one_keeps_limits
