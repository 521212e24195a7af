use Rattle.std.proofs.Common.{inl, inr}
use Rattle.worker_pass.proofs.Falling.{fallen_below, fallen_to}
use Rattle.worker_pass.proofs.Works.{passed_fallen}
use Rattle.worker_pass.proofs.joining.finish_rows.Goals as goal

pub returns-clause-passed : goal.returns-clause-passed
returns-clause-passed c = λ above below r known.
    let f = c.args.board.now.frame in
    let split = fallen_to c.args.owner.now.seen c.split-pass.new.owner.seen c.split-pass.result.seen c.split-pass.ensures.copy c.split-pass.ensures.fallen in
    elim (c.update_rest.ensures.passed above (fallen_below f.problem c.args.owner.now.seen c.split-pass.result.seen above split below) r known) [
      | inl m ↦ inl m
      | inr p ↦ inr (passed_fallen f above c.update_rest.new.pass.seen c.join.new.owner.seen r c.rules.ensures known c.join.ensures.below p)
    ]
