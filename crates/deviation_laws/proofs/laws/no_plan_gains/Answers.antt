use Rattle.std.proofs.Common.{subst}
use Rattle.game_model.specs.Game.{IsGame}
use Rattle.game_model.specs.SelfGeneration.{entry_at, part}
use Rattle.selfgen_check.specs.Promises.{correspondence_of}
use Rattle.deviation_laws.specs.Plans.{worth}
use Rattle.deviation_laws.proofs.Worths.{IsAtMost, plan_at_most}
use Rattle.deviation_laws.proofs.laws.no_plan_gains.Goals as goal

pub returns : goal.returns
returns c = λ i s k plan player state entry fits.
    let g = c.args.set.now.game in
    let ok : IsGame g = subst IsGame c.game-game.ensures.game c.players-players.ensures.is_game in
    let w : IsAtMost (worth g (correspondence_of g c.args.set.now.corr) i s k plan) (part (entry_at (correspondence_of g c.args.set.now.corr) s k).point i) =
    plan_at_most g (correspondence_of g c.args.set.now.corr) i ok c.game-game.ensures.checked.self_generating player s k state entry plan fits in
    record { positive = w.positive; at_most = w.at_most }
