use Rattle.std.proofs.Common.{arith}
use Rattle.inner_sets.proofs.settle.points_left.Goals as goal

pub overflow_add-left : goal.overflow_add-left
overflow_add-left c = omega (arith, c.loop-row.invariant.small, c.len.ensures.few, c.len.ensures.count, c.from-left.ensures, c.requires, c.loop-row.auto.row-index-end, c.loop-row-test.true)
