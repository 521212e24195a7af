use Rattle.std.proofs.Common.{sym, subst}
use Rattle.game_model.specs.Parts.{KeepLimits}
use Rattle.board_race.proofs.Fall.{built_is, keeps_limits}
use Rattle.board_race.proofs.tests.falling_game.Goals as goal

pub build-requires : goal.build-requires
build-requires c = subst KeepLimits (sym c.requires) keeps_limits

pub returns-in-Ok : goal.returns-in-Ok
returns-in-Ok c = built_is c.in-Ok.game c.args.parts (c.in-Ok.ensures {u = tt}).is_game (c.in-Ok.ensures {u = tt}).built c.requires
