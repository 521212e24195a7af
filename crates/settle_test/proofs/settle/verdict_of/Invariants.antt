use Rattle.std.proofs.Common.{◌≡◌, ◌⊎◌, ◌%◌, ◌<◌, ◌≤◌, length}
use Rattle.level_table.specs.Problem.{direction_count}
use Rattle.settle_test.specs.Verdicts.{AreSupports, IsReadyAt}
use Rattle.settle_test.proofs.settle.verdict_of.Given as goal

-- the rows before are supported, and the state of this row is ready if a row of it was before
abbrev pub invariant-loop-row : goal.invariant-loop-row
invariant-loop-row l = record {
  few : length l.supports ≤ l.row;
  so_far : AreSupports l.p l.levels l.slack l.row l.supports;
  room : l.prepared.room ≡ l.fn.prepared.room;
  ready : l.row < length l.levels.levels → (l.row % direction_count l.p ≡ 0) ⊎ IsReadyAt l.p l.levels l.prepared l.row;
}
