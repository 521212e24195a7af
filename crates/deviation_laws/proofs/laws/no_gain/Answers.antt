use Rattle.std.proofs.Common.{subst}
use Rattle.game_model.specs.Game.{IsGame}
use Rattle.game_model.specs.SelfGeneration.{entry_at, part}
use Rattle.selfgen_check.specs.Promises.{correspondence_of}
use Rattle.deviation_laws.specs.Plans.{worth}
use Rattle.deviation_laws.proofs.Worths.{IsAtMost, plan_at_most}
use Rattle.deviation_laws.proofs.laws.no_gain.Goals as goal

pub returns : goal.returns
returns c =
    let ok : IsGame c.args.set.now.game = subst IsGame c.game-game.ensures.game c.players-players.ensures.is_game in
    let w : IsAtMost (worth c.args.set.now.game (correspondence_of c.args.set.now.game c.args.set.now.corr) c.args.player c.args.state c.args.entry c.args.plan.now) (part (entry_at (correspondence_of c.args.set.now.game c.args.set.now.corr) c.args.state c.args.entry).point c.args.player) =
    plan_at_most c.args.set.now.game (correspondence_of c.args.set.now.game c.args.set.now.corr) c.args.player ok c.game-game.ensures.checked.self_generating c.requires.player c.args.state c.args.entry c.requires.state c.requires.entry c.args.plan.now c.requires.fits in
    record { positive = w.positive; at_most = w.at_most }
