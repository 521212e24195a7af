use Rattle.std.proofs.Common.{◌≤◌, length}
use Rattle.settle_test.specs.Verdicts.{AreSupports}
use Rattle.settle_test.proofs.parts.gathered.Given as goal

-- the rows before are supported
abbrev pub invariant-loop-row : goal.invariant-loop-row
invariant-loop-row l = record {
  few : length l.supports ≤ l.row;
  so_far : AreSupports l.p l.levels l.slack l.row l.supports;
}
