use Rattle.std.proofs.Common.{arith}
use Rattle.inner_sets.proofs.Ranges.{range_more}
use Rattle.inner_sets.proofs.SmallParts.{reached_small}
use Rattle.inner_sets.proofs.lattice.range_of.Goals as goal

pub loop-s-preserved : goal.loop-s-preserved
loop-s-preserved c =
    range_more c.args.game.now c.loop-s.s c.args.i c.loop-s.range.0 c.loop-s.range.1 c.joined-range.result.0 c.joined-range.result.1 c.range_in.result.0 c.range_in.result.1
    c.loop-s.invariant (omega (arith, c.loop-s-test.true, c.states-s-end.ensures)) c.range_in.ensures c.joined-range.ensures.low c.joined-range.ensures.high

pub returns-clause-low : goal.returns-clause-low
returns-clause-low c = reached_small c.args.game.now c.args.i c.loop-s.range.0 c.players-players.ensures.is_game c.requires.player c.loop-s.invariant.low_reached

pub returns-clause-high : goal.returns-clause-high
returns-clause-high c = reached_small c.args.game.now c.args.i c.loop-s.range.1 c.players-players.ensures.is_game c.requires.player c.loop-s.invariant.high_reached
