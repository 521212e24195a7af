use Rattle.std.proofs.Common.{◌≡◌, ◌<◌, length, arith, ◌∙◌}
use Rattle.settle_test.proofs.Places.{ready_next}
use Rattle.settle_test.proofs.Settling.{few_more, verdict_unsupported, verdict_supported, supports_more}
use Rattle.settle_test.proofs.settle.verdict_of.Goals as goal

pub returns-in-Unsupported-clause-verdict : goal.returns-in-Unsupported-clause-verdict
returns-in-Unsupported-clause-verdict c =
    let below : c.loop-row.row < length c.args.levels.now.levels = omega arith in
    verdict_unsupported _ c.args.levels.now c.args.slack c.loop-row.row c.in-Unsupported.level c.in-Unsupported.reached c.loop-row.supports c.requires.table below c.loop-row.invariant.so_far c.in-Unsupported.ensures

pub loop-row-preserved : goal.loop-row-preserved
loop-row-preserved c =
    let below : c.loop-row.row < length c.args.levels.now.levels = omega arith in
    let more = supports_more c.args.p.now c.args.levels.now c.args.slack c.loop-row.row c.loop-row.supports c.add.new.supports c.in-Fine.support c.loop-row.invariant.so_far c.in_ok-add-in-Fine.ensures c.in-Fine.ensures in
    record {
      few = few_more c.loop-row.row c.loop-row.supports c.add.new.supports c.in-Fine.support c.loop-row.invariant.few c.in_ok-add-in-Fine.ensures;
      so_far = more;
      room = c.begin_state.ensures.room ∙ c.loop-row.invariant.room;
      ready = ready_next c.args.p.now c.args.levels.now c.begin_state.new.prepared c.loop-row.row c.requires.table c.requires.even below c.begin_state.ensures.ready;
    }

pub returns-clause-verdict : goal.returns-clause-verdict
returns-clause-verdict c =
    let all : c.loop-row.row ≡ length c.args.levels.now.levels = omega arith in
    verdict_supported _ c.args.levels.now c.args.slack c.loop-row.row c.loop-row.supports c.requires.table c.requires.even all c.loop-row.invariant.so_far
