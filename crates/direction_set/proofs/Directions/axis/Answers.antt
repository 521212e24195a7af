use Rattle.std.proofs.Common.{arith}
use Rattle.direction_set.proofs.Tables.{rules_seen}
use Rattle.direction_set.proofs.Directions.axis.Goals as goal

pub returns-then-plus-clause-within : goal.returns-then-plus-clause-within
returns-then-plus-clause-within c =
    omega (arith, (rules_seen _ _ _ c.self.invariant c.self.view_is).has_axes)

pub returns-then-plus-clause-vector : goal.returns-then-plus-clause-vector
returns-then-plus-clause-vector c =
    rw c.if-plus.true ((rules_seen _ _ _ c.self.invariant c.self.view_is).plus_axis c.args.i c.requires)

pub returns-else-plus-clause-within : goal.returns-else-plus-clause-within
returns-else-plus-clause-within c =
    omega (arith, (rules_seen _ _ _ c.self.invariant c.self.view_is).has_axes)

pub returns-else-plus-clause-vector : goal.returns-else-plus-clause-vector
returns-else-plus-clause-vector c =
    rw c.if-plus.false ((rules_seen _ _ _ c.self.invariant c.self.view_is).minus_axis c.args.i c.requires)
