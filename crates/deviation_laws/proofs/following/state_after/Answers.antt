use Rattle.std.proofs.Common.{subst}
use Rattle.game_model.specs.Game.{IsGame}
use Rattle.game_model.specs.SelfGeneration.{IsGenerated, entry_at}
use Rattle.selfgen_check.specs.Promises.{correspondence_of}
use Rattle.deviation_laws.proofs.Averages.{after_known}
use Rattle.deviation_laws.proofs.following.state_after.Goals as goal

pub returns-clause-in_range : goal.returns-clause-in_range
returns-clause-in_range c =
    let ok : IsGame c.args.set.now.game = subst IsGame c.game-game.ensures.game c.players-players.ensures.is_game in
    let made : IsGenerated c.args.set.now.game (correspondence_of c.args.set.now.game c.args.set.now.corr) c.args.state (entry_at (correspondence_of c.args.set.now.game c.args.set.now.corr) c.args.state c.args.entry) = c.game-game.ensures.checked.self_generating.generated c.args.state c.args.entry c.requires.state c.requires.entry in
    let k = after_known c.args.set.now.game c.args.state (entry_at (correspondence_of c.args.set.now.game c.args.set.now.corr) c.args.state c.args.entry) c.args.player c.args.strategy ok c.requires.state made.profile c.requires.player c.requires.strategy in
    rw (c.next.ensures, c.game-game.ensures.game, c.profile_after.ensures.profile) k
