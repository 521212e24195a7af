use Rattle.std.proofs.Common.{◌≡◌, ◌<◌, length, arith}
use Rattle.settle_test.proofs.Settling.{verdict_unsupported, verdict_supported}
use Rattle.settle_test.proofs.parts.gathered.Goals as goal

pub returns-in-Unsupported : goal.returns-in-Unsupported
returns-in-Unsupported c =
    let below : c.loop-row.row < length c.args.levels.now.levels = omega arith in
    record { verdict = verdict_unsupported _ c.args.levels.now c.args.slack c.loop-row.row c.in-Unsupported.level c.in-Unsupported.reached c.loop-row.supports c.requires.table below c.loop-row.invariant.so_far c.in-Unsupported.ensures }

pub returns : goal.returns
returns c =
    let all : c.loop-row.row ≡ length c.args.levels.now.levels = omega arith in
    record { verdict = verdict_supported _ c.args.levels.now c.args.slack c.loop-row.row c.loop-row.supports c.requires.table c.requires.even all c.loop-row.invariant.so_far }
