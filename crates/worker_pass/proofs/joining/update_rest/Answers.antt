use Rattle.std.proofs.Common.{◌⊎◌, inl, inr, ℕ, ◌<◌, below_more, List, arith}
use Rattle.level_table.specs.Levels.{Levels, Table}
use Rattle.level_board.proofs.Moments.{fallen_trans}
use Rattle.schedule_core.specs.Frame.{Frame, IsFallen, IsFrame, rows_of}
use Rattle.worker_pass.specs.declared.working.Worker.{Worker}
use Rattle.worker_pass.specs.Updates.{IsPassedRow}
use Rattle.worker_pass.specs.Work.{HasMarked}
use Rattle.worker_pass.proofs.Falling.{fallen_below}
use Rattle.worker_pass.proofs.Works.{passed_fallen}
use Rattle.worker_pass.proofs.joining.update_rest.Goals as goal

lifted : (f : Frame) (above : Levels) (ws : List Worker) (t u : Table) (r : ℕ) → IsFrame f → r < rows_of f → IsFallen t u → HasMarked ws r ⊎ IsPassedRow f above t r → HasMarked ws r ⊎ IsPassedRow f above u r
lifted f above ws t u r ok known fell (inl m) = inl m
lifted f above ws t u r ok known fell (inr p) = inr (passed_fallen f above t u r ok known fell p)

pub loop-row-preserved : goal.loop-row-preserved
loop-row-preserved c =
    let f = c.args.board.now.frame in
    let ws = c.args.workers.now.items in
    let inv = c.loop-row.invariant in
    record {
      board = c.update_unmarked.ensures.board;
      scratch = c.update_unmarked.ensures.scratch;
      fell = fallen_trans c.args.pass.now.seen c.loop-row.pass.seen c.update_unmarked.new.pass.seen inv.fell c.update_unmarked.ensures.fell;
      passed = λ above below. below_more (λ (r : ℕ). HasMarked ws r ⊎ IsPassedRow f above c.update_unmarked.new.pass.seen r) c.loop-row.row
          (λ r before. lifted f above ws c.loop-row.pass.seen c.update_unmarked.new.pass.seen r c.rules.ensures (omega arith) c.update_unmarked.ensures.fell (inv.passed above below r before))
          (c.update_unmarked.ensures.passed above (fallen_below f.problem c.args.pass.now.seen c.loop-row.pass.seen above inv.fell below));
    }

pub returns-clause-passed : goal.returns-clause-passed
returns-clause-passed c = λ above below r known. c.loop-row.invariant.passed above below r (omega arith)
