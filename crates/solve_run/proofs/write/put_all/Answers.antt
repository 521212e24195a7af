use Rattle.std.proofs.Common.{arith}
use Rattle.solve_run.proofs.Written.{taken_more}
use Rattle.solve_run.proofs.write.put_all.Goals as goal

pub loop-written-preserved : goal.loop-written-preserved
loop-written-preserved g c = record {
  within = c.in-Ok.ensures.within;
  so_far = taken_more (g.K.Sink.taken c.args.sink.now) (g.K.Sink.taken c.loop-written.sink) (g.K.Sink.taken c.put_rest.new.sink) c.args.text.now c.loop-written.written c.in-Ok.n c.loop-written.invariant.so_far c.in-Ok.ensures.took;
  faults = omega (arith, c.loop-written.invariant.faults, c.put_rest.ensures.grow);
}
