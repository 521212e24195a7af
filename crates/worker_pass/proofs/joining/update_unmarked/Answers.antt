use Rattle.std.proofs.Common.{inr, arith}
use Rattle.worker_pass.proofs.Falling.{scratch_directions, seen_on}
use Rattle.worker_pass.proofs.Rows.{passed_row}
use Rattle.worker_pass.proofs.joining.update_unmarked.Goals as goal

pub returns-then-not-is_marked-clause-passed : goal.returns-then-not-is_marked-clause-passed
returns-then-not-is_marked-clause-passed c = λ above below.
    let f = c.args.board.now.frame in
    let seen = seen_on _ _ _ c.requires.board c.rules-2.ensures.seen in
    let updated = c.take_down.ensures.updated in
    inr (passed_row f c.args.pass.now.seen c.take_down.new.pass.seen c.take_down.new.scratch.levels c.args.row updated.0 above c.rules.ensures c.requires.row
    (scratch_directions f c.take_down.new.scratch.levels c.rules.ensures c.take_down.ensures.scratch.table) seen.directions_agree
    (omega (arith, c.requires.row, seen.one_each, updated.1.fallen.one_each)) updated.1 below)
