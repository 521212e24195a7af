use Rattle.std.proofs.Common.{◌≡◌, ◌⊎◌, ◌%◌, ◌<◌, length}
use Rattle.level_table.specs.Problem.{direction_count}
use Rattle.settle_test.specs.Verdicts.{IsReadyAt, NoneFails}
use Rattle.settle_test.proofs.settle.failing_row.Given as goal

-- the rows before don't fail, and the state of this row is ready if a row of it was before
abbrev pub invariant-loop-row : goal.invariant-loop-row
invariant-loop-row l = record {
  room : l.prepared.room ≡ l.fn.prepared.room;
  none : NoneFails l.p l.levels l.slack l.from l.row;
  ready : l.row < length l.levels.levels → (l.row ≡ l.from) ⊎ ((l.row % direction_count l.p ≡ 0) ⊎ IsReadyAt l.p l.levels l.prepared l.row);
}
