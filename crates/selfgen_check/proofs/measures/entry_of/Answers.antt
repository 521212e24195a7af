use Rattle.std.proofs.Common.{length, ap, arith}
use Rattle.selfgen_check.proofs.Measuring.{entry_made}
use Rattle.selfgen_check.proofs.measures.entry_of.Goals as goal

pub point_of-requires : goal.point_of-requires
point_of-requires c = omega (arith, c.requires.parts, c.players-players.ensures.is_game.three_players)

pub new-requires : goal.new-requires
new-requires c = omega (arith, ap length c.in_ok-profile.ensures, c.requires.strategies, c.players-players.ensures.is_game.three_players)

pub returns : goal.returns
returns c =
    entry_made c.args.common c.args.game.now.players c.args.written.now c.in_ok-point.point c.in_ok-profile.profile c.same_lottery-lottery.result c.in_ok-punish.punish c.new.result c.requires
    c.in_ok-point.ensures c.in_ok-profile.ensures c.same_lottery-lottery.ensures c.in_ok-punish.ensures c.new.ensures
