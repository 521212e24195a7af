use Rattle.std.proofs.Common.{inr, ◌<◌, length, arith, ◌∙◌}
use Rattle.settle_test.proofs.Places.{ready_next}
use Rattle.settle_test.proofs.Settling.{none_more}
use Rattle.settle_test.proofs.settle.failing_row.Goals as goal

pub loop-row-preserved : goal.loop-row-preserved
loop-row-preserved c =
    let below : c.loop-row.row < length c.args.levels.now.levels = omega arith in
    record {
      room = c.begin_at.ensures.room ∙ c.loop-row.invariant.room;
      none = none_more c.args.p.now c.args.levels.now c.args.slack c.args.from c.loop-row.row c.loop-row.invariant.none (λ h. let e = c.fails.ensures.1 h in let f = c.if-fails.false in cc);
      ready = λ next. inr (ready_next c.args.p.now c.args.levels.now c.begin_at.new.prepared c.loop-row.row c.requires.table c.requires.even below c.begin_at.ensures.ready next);
    }

pub returns-clause-failing : goal.returns-clause-failing
returns-clause-failing c = λ row above within below. c.loop-row.invariant.none row above (omega (arith, within, below)) below
