use Rattle.std.proofs.Common.{below_more, arith}
use Rattle.selfgen_check.proofs.checker.first_fault.Goals as goal

pub loop-s-preserved : goal.loop-s-preserved
loop-s-preserved c = below_more _ _ c.loop-s.invariant c.in-None.ensures.none

pub returns-in-Some-clause-some : goal.returns-in-Some-clause-some
returns-in-Some-clause-some c = let e = c.in-Some.ensures.state in
    record {
      state = omega (arith, e, c.states-s-end.ensures);
      entry = rw e c.in-Some.ensures.entry;
      broken = rw e c.in-Some.ensures.broken;
      here = rw e c.in-Some.ensures.before;
      states_before = rw e c.loop-s.invariant;
    }
