use Rattle.std.proofs.Common.{arith}
use Rattle.schedule_core.specs.Frame.{IsFallen}
use Rattle.level_board.proofs.Moments.{fallen_trans}
use Rattle.worker_pass.proofs.Falling.{scratch_directions, seen_on}
use Rattle.worker_pass.proofs.Loads.{held_then}
use Rattle.worker_pass.proofs.Rows.{passed_row}
use Rattle.worker_pass.proofs.Works.{marks_more, passed_fallen}
use Rattle.worker_pass.proofs.working.take_row.Goals as goal

pub returns-clause-marked : goal.returns-clause-marked
returns-clause-marked c = λ above below marks.
    let f = c.args.board.now.frame in
    let seen = seen_on _ _ _ c.requires.worker.board c.rules-2.ensures.seen in
    let updated = c.take_down-after.ensures.updated in
    let old = c.args.worker.now.pass.seen in
    let taken = c.take_down-after.new.pass.seen in
    let fell : IsFallen old c.load_row.new.pass.seen = fallen_trans old taken c.load_row.new.pass.seen updated.1.fallen c.load_row.ensures.loaded.fallen in
    marks_more f above c.args.worker.now (record { number = c.args.worker.now.number; pass = c.load_row.new.pass; scratch = c.load_row.new.scratch; done = c.set.new.self }) c.args.row
    c.rules.ensures fell c.set.ensures
    (passed_fallen f above taken c.load_row.new.pass.seen c.args.row c.rules.ensures c.requires.row c.load_row.ensures.loaded.fallen
    (passed_row f old taken c.take_down-after.new.scratch.levels c.args.row updated.0 above c.rules.ensures c.requires.row
    (scratch_directions f c.take_down-after.new.scratch.levels c.rules.ensures c.take_down-after.ensures.scratch.table) seen.directions_agree
    (omega (arith, c.requires.row, seen.one_each, updated.1.fallen.one_each)) updated.1 below)) marks

pub returns-clause-fallen : goal.returns-clause-fallen
returns-clause-fallen c = fallen_trans c.args.worker.now.pass.seen c.take_down-after.new.pass.seen c.load_row.new.pass.seen c.take_down-after.ensures.updated.1.fallen c.load_row.ensures.loaded.fallen

pub returns-clause-held : goal.returns-clause-held
returns-clause-held c =
    held_then c.args.board.now.frame c.take_down-after.new.pass.seen c.load_row.new.pass.seen c.take_down-after.new.scratch.levels c.load_row.new.scratch.levels c.args.row c.take_down-after.result
    c.take_down-after.ensures.held c.load_row.ensures.loaded c.load_row.ensures.here c.take_down-after.ensures.updated.1.held
