use Rattle.worker_pass.proofs.Falling.{seen_on}
use Rattle.sweep_run.proofs.Sweeping.{noted, swept}
use Rattle.sweep_run.proofs.sweeper.Sweeper.sweep.Goals as goal

pub returns-clause-swept : goal.returns-clause-swept
returns-clause-swept g c =
    let w = c.args.self.now in
    let h = c.requires.sweeper in
    swept w.board.frame w.owner c.sweep.new.owner w.scratch.levels c.sweep.new.scratch.levels c.sweep.result h.frame h.sound (seen_on _ _ _ h.owner c.rules.ensures.seen) h.even h.named h.seen c.sweep.ensures.swept

pub returns-clause-noted : goal.returns-clause-noted
returns-clause-noted g c =
    let w = c.args.self.now in
    noted w.board.frame w.owner c.sweep.new.owner w.scratch.levels c.sweep.new.scratch.levels c.sweep.result c.requires.sweeper.frame c.requires.sweeper.sound c.sweep.ensures.swept
