use Rattle.std.proofs.Common.{◌<◌}
use Rattle.std.specs.Prelude.{◌↔◌, IsTrue, slice_index}
use Rattle.game_model.specs.Game.{counts}
use Rattle.game_model.specs.SelfGeneration.{entry_at}
use Rattle.selfgen_check.specs.Promises.{correspondence_of}
use Rattle.deviation_laws.specs.Lists.{FitInTurn}
use Rattle.deviation_laws.specs.Plans.{state_after, outcomes_after}
use Rattle.deviation_laws.proofs.Turns.{fits_play}
use Rattle.deviation_laws.proofs.fitting.+fitting.Goals as goal

pub fits-returns-else-strategy-strategies : goal.fits-returns-else-strategy-strategies
fits-returns-else-strategy-strategies t c =
    let within : c.in-Play.strategy < slice_index (counts c.args.set.now.game c.args.state) c.args.player = rw (← c.game.ensures.game, ← c.strategies.ensures) c.if-strategy-strategies.false in
    let h : IsTrue c.fit_in_turn.result ↔ FitInTurn c.args.set.now.game (correspondence_of c.args.set.now.game c.args.set.now.corr) c.args.player (state_after c.args.set.now.game c.args.state (entry_at (correspondence_of c.args.set.now.game c.args.set.now.corr) c.args.state c.args.entry) c.args.player c.in-Play.strategy) (outcomes_after c.args.set.now.game c.args.state (entry_at (correspondence_of c.args.set.now.game c.args.set.now.corr) c.args.state c.args.entry) c.args.player c.in-Play.strategy) c.in-Play.plans.items =
    rw (c.state_after-next.ensures.next, c.outcomes_after-outcomes.ensures.outcomes, c.deref.ensures.value) at c.fit_in_turn.ensures in
    rw c.in-Play.is (fits_play c.args.set.now.game (correspondence_of c.args.set.now.game c.args.set.now.corr) c.args.player c.args.state c.args.entry c.in-Play.strategy c.in-Play.plans (IsTrue c.fit_in_turn.result) within h)
