use Rattle.worker_pass.proofs.Works.{did_drawn}
use Rattle.worker_pass.proofs.working.work.Goals as goal

pub loop-preserved : goal.loop-preserved
loop-preserved g c =
    record {
      worker = c.take_rows.ensures.worker;
      did = c.take_rows.ensures.did c.args.worker.now
          (did_drawn c.args.board.now.frame c.args.worker.now c.loop.worker c.draw_some-rows.new.worker c.draw_some-rows.ensures.seen c.draw_some-rows.ensures.done c.loop.invariant.did);
    }

pub returns-then-len-share-clause-did : goal.returns-then-len-share-clause-did
returns-then-len-share-clause-did g c =
    c.take_rows.ensures.did c.args.worker.now
    (did_drawn c.args.board.now.frame c.args.worker.now c.loop.worker c.draw_some-rows.new.worker c.draw_some-rows.ensures.seen c.draw_some-rows.ensures.done c.loop.invariant.did)
