use Rattle.std.proofs.Common.{◌≡◌, ℕ, ◌+◌, ◌<◌, ◌≤◌, length}
use Rattle.level_table.specs.declared.level.Level.TheVariants.{Empty}
use Rattle.level_table.specs.Levels.{levels_in}
use Rattle.level_table.specs.Operator.{IsRowLevel}
use Rattle.level_table.specs.Problem.{direction_count}
use Rattle.schedule_core.specs.Frame.{IsFallen}
use Rattle.worker_pass.specs.Clearings.{AreCleared, KeepsNotes}
use Rattle.worker_pass.specs.Scratches.{IsScratch}
use Rattle.worker_pass.specs.Sweeps.{IsCleared}
use Rattle.worker_pass.proofs.clearing.clear_states.Given as goal

abbrev pub invariant-loop-s : goal.invariant-loop-s
invariant-loop-s l = record {
  owner : l.owner.board ≡ l.board;
  scratch : IsScratch l.board.frame.problem l.scratch;
  same : l.scratch.levels ≡ l.owner.seen;
  cleared : IsCleared l.board.frame l.owner.notes l.owner.seen;
  fell : IsFallen l.fn.owner.seen l.owner.seen;
  clearing : AreCleared l.board.frame.problem l.s (levels_in l.fn.owner.seen) l.fn.owner.notes (levels_in l.owner.seen) l.owner.notes;
  noted : KeepsNotes l.board.frame.problem (levels_in l.fn.owner.seen) l.fn.owner.notes l.owner.notes;
  dead : (s k : ℕ) → s < l.s → k < direction_count l.board.frame.problem → IsRowLevel l.board.frame.problem (levels_in l.fn.owner.seen) s k Empty → levels_in l.owner.seen s k ≡ Empty;
  notes : length l.owner.notes ≡ length l.fn.owner.notes + l.count;
  few : l.count ≤ l.s;
}
