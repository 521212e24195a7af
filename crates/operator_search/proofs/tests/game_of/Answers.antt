use Rattle.std.proofs.Common.{sym, subst, length}
use Rattle.std.specs.Prelude.{◌/◌}
use Rattle.game_model.specs.Parts.{KeepLimits}
use Rattle.operator_search.proofs.SmallGames.{small_keeps}
use Rattle.operator_search.proofs.tests.game_of.Goals as goal

pub build-requires : goal.build-requires
build-requires c = let t = c.args.trial.now in
    subst KeepLimits (sym c.in_ok-parts.ensures) (small_keeps t.players (length t.payoffs.items / t.players) t.second t.third t.q t.payoffs.items c.requires)
