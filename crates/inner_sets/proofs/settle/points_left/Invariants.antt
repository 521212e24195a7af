use Rattle.std.proofs.Common.{◌≡◌, ◌≤◌, ◌*◌, length, take}
use Rattle.std.specs.Prelude.{sum_by}
use Rattle.inner_sets.proofs.settle.points_left.Given as goal

abbrev pub invariant-loop-row : goal.invariant-loop-row
invariant-loop-row l = record {
  sum : l.left ≡ sum_by length (take l.row-index l.rows);
  small : l.left ≤ 65535 * l.row-index;
}
