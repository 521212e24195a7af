use Rattle.std.proofs.Common.{◌≤◌, ◌<◌, ℕ}
use Rattle.level_table.specs.Problem.{discount_at}
use Rattle.set_operator.proofs.most.range_of.Given as goal

abbrev pub invariant-loop-i : goal.invariant-loop-i
invariant-loop-i l = record {
  least : (j : ℕ) → j < l.i → l.range.least ≤ discount_at l.p j;
  most : (j : ℕ) → j < l.i → discount_at l.p j ≤ l.range.most;
  small : l.range.least ≤ 1024;
}
