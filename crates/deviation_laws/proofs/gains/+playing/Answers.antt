use Rattle.std.specs.Prelude.{IsTrue}
use Rattle.deviation_laws.proofs.Depths.{depth_play}
use Rattle.deviation_laws.proofs.gains.+playing.Goals as goal

pub plays_at_most-returns-then-periods-gt0 : goal.plays_at_most-returns-then-periods-gt0
plays_at_most-returns-then-periods-gt0 t c =
    rw c.in-Play.is (depth_play c.in-Play.strategy c.in-Play.plans c.args.periods (IsTrue c.play_at_most.result) c.if-periods-gt0.true (rw c.deref.ensures.value at c.play_at_most.ensures))
