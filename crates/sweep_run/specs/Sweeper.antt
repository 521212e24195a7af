-- What a run works on.
use Rattle.std.specs.Prelude.{◌≡◌, ℕ, ◌<◌, length, All, List, Option, Some, None}
use Rattle.level_table.specs.declared.reason.Note.{Note}
use Rattle.level_table.specs.Problem.{Problem}
use Rattle.level_table.specs.Levels.{Levels, Table, levels_in}
use Rattle.level_table.specs.Notes.{HasRoomFor}
use Rattle.level_table.specs.Supported.{IsEven}
use Rattle.schedule_core.specs.Frame.{IsFallen, IsFrame, IsSeen}
use Rattle.set_operator.specs.declared.row.Verdict.{Verdict}
use Rattle.settle_test.specs.Verdicts.{FailsAt, IsVerdict}
use Rattle.worker_pass.specs.Clearings.{AreNamed}
use Rattle.worker_pass.specs.Scratches.{IsScratch}
use Rattle.worker_pass.specs.Sweeps.{HoldsButFirst, IsCleared}
use Rattle.worker_pass.specs.Work.{IsWorkerOf}
use Rattle.sweep_run.specs.Runs.{IsLastSweep, IsRunning, IsSupportedVerdict}
use Rattle.sweep_run.specs.declared.run.Run.{Run}
use Rattle.sweep_run.specs.declared.sweeper.Sweeper.{Sweeper}

abbrev pub problem_in : Sweeper → Problem
problem_in w = w.board.frame.problem

-- A board with its owner and workers. The scratch has the table of the run, which the owner has seen but for row 0, where it may have seen less; the notes name exactly its Empty states.
pub record IsSweeper (w : Sweeper) : Type 0 where
  pub frame : IsFrame w.board.frame
  pub owner : w.owner.board ≡ w.board
  pub scratch : IsScratch (problem_in w) w.scratch
  pub workers : All (λ x. IsWorkerOf w.board x) w.workers.items
  pub below : All (λ x. IsFallen w.owner.seen x.pass.seen) w.workers.items
  pub cleared : IsCleared w.board.frame w.owner.notes w.owner.seen
  pub sound : IsSeen w.board.frame w.scratch.levels
  pub even : IsEven (problem_in w) (levels_in w.scratch.levels)
  pub named : AreNamed (problem_in w) (levels_in w.scratch.levels) w.owner.notes
  pub seen : HoldsButFirst w.scratch.levels w.owner.seen
  pub room : HasRoomFor (problem_in w).game w.prepared.room
  pub failed : w.failed < length w.scratch.levels.levels

-- a verdict that the table is supported, or none, and then some row fails
abbrev pub IsSettling : Problem → Table → ℕ → Option Verdict → Type 0
IsSettling p t slack None = (row : ℕ) × (row < length t.levels) × FailsAt p t slack row
IsSettling p t slack (Some verdict) = IsVerdict p t slack verdict × IsSupportedVerdict verdict

-- What a run of at most so many sweeps makes of a sweeper: whatever start and notes this one began from.
pub record IsRunOf (w : Sweeper) (slack most : ℕ) (r : Run) : Type 0 where
  pub is_verdict : IsVerdict (problem_in w) r.levels slack r.verdict
  pub last : IsLastSweep most r.sweeps r.verdict
  pub running : (start : Levels) (given : List Note) → IsRunning (problem_in w) start given slack 0 w.scratch.levels w.owner.notes → IsRunning (problem_in w) start given slack r.sweeps r.levels r.notes.list
