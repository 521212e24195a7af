use Rattle.std.proofs.Common.{sym, subst}
use Rattle.game_model.specs.Parts.{KeepLimits}
use Rattle.inner_sets.proofs.Dilemma.{half_keeps_limits, less_keeps_limits}
use Rattle.inner_sets.proofs.tests.cooperation_needs_patience.Goals as goal

pub build-requires : goal.build-requires
build-requires g c = subst KeepLimits (sym c.in_ok-dilemma.ensures) half_keeps_limits

pub build-requires-2 : goal.build-requires-2
build-requires-2 g c = subst KeepLimits (sym c.in_ok-dilemma-2.ensures) less_keeps_limits
