use Rattle.std.proofs.Common.{◌≡◌, List}
use Rattle.level_table.specs.declared.reason.Note.{Note}
use Rattle.level_table.specs.Levels.{Levels}
use Rattle.sweep_run.specs.Runs.{IsRunning}
use Rattle.sweep_run.specs.Sweeper.{IsSweeper, problem_in}
use Rattle.sweep_run.proofs.run.make_run.Given as goal

-- whatever start and notes the first table came from
abbrev pub invariant-loop-sweeps : goal.invariant-loop-sweeps
invariant-loop-sweeps g l = record {
  sweeper : IsSweeper l.w;
  board : l.w.board ≡ l.fn.start.board;
  running : (start : Levels) (given : List Note) → IsRunning (problem_in l.fn.start) start given l.slack 0 l.fn.start.scratch.levels l.fn.start.owner.notes → IsRunning (problem_in l.fn.start) start given l.slack l.sweeps l.w.scratch.levels l.w.owner.notes;
}
