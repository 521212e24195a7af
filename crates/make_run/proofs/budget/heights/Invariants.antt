use Rattle.std.proofs.Common.{◌≡◌, ◌*◌, ◌≤◌, pos}
use Rattle.game_model.specs.SelfGeneration.{sum_below}
use Rattle.level_table.specs.Iterates.{height}
use Rattle.level_table.specs.Levels.{opening_table}
use Rattle.make_run.proofs.budget.heights.Given as goal

abbrev pub invariant-loop-k : goal.invariant-loop-k
invariant-loop-k l = record {
  sum : pos l.sum ≡ sum_below (λ k. height (opening_table l.fn.p) 0 k) l.k;
  small : l.sum ≤ 2880 * l.k;
}
