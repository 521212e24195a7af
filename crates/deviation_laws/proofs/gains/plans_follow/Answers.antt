use Rattle.std.proofs.Common.{◌^◌, subst}
use Rattle.game_model.specs.Game.{IsGame}
use Rattle.game_model.specs.SelfGeneration.{IsSelfGenerating, entry_at}
use Rattle.selfgen_check.specs.Promises.{correspondence_of}
use Rattle.deviation_laws.proofs.Averages.{follows}
use Rattle.deviation_laws.proofs.Plays.{play_fits, play_depth, play_strategy}
use Rattle.deviation_laws.proofs.gains.plans_follow.Goals as goal

pub returns : goal.returns
returns c =
    let ok : IsGame c.args.set.now.game = subst IsGame c.game.ensures.game c.players-players.ensures.is_game in
    let self : IsSelfGenerating c.args.set.now.game (correspondence_of c.args.set.now.game c.args.set.now.corr) = c.game.ensures.checked.self_generating in
    let after = follows c.args.set.now.game (correspondence_of c.args.set.now.game c.args.set.now.corr) c.args.turn.state (entry_at (correspondence_of c.args.set.now.game c.args.set.now.corr) c.args.turn.state c.args.turn.entry) c.args.player c.args.turn.strategy ok c.requires.state (self.generated c.args.turn.state c.args.turn.entry c.requires.state c.requires.entry) c.requires.player
    (play_strategy c.args.set.now.game (correspondence_of c.args.set.now.game c.args.set.now.corr) c.args.player c.args.turn.state c.args.turn.entry c.args.turn.strategy c.args.plans.now c.requires.fits) in
    record {
      weights = rw c.requires.outcomes after.weight;
      fit = rw (c.requires.next, c.requires.outcomes) (play_fits c.args.set.now.game (correspondence_of c.args.set.now.game c.args.set.now.corr) c.args.player c.args.turn.state c.args.turn.entry c.args.turn.strategy c.args.plans.now c.requires.fits);
      deep = play_depth c.args.depth (2 ^ 32) c.args.turn.strategy c.args.plans.now c.requires.deep;
    }
