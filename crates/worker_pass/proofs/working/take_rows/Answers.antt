use Rattle.worker_pass.proofs.Works.{did_more}
use Rattle.worker_pass.proofs.working.take_rows.Goals as goal

pub loop-i-preserved : goal.loop-i-preserved
loop-i-preserved g c = record {
  worker = c.take_row-held.ensures.worker;
  did = λ w h. did_more c.args.board.now.frame w c.loop-i.worker c.take_row-held.new.worker c.take_row-held.ensures.fallen c.take_row-held.ensures.marked (c.loop-i.invariant.did w h);
  held = c.take_row-held.ensures.held;
}
