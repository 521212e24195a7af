use Rattle.std.proofs.Common.{◌≡◌, ◌*◌, ◌^◌, ◌≤◌, get_or, pos}
use Rattle.std.specs.Int.RustNames.{unsigned_abs}
use Rattle.game_model.specs.SelfGeneration.{sum_below}
use Rattle.level_table.specs.Problem.{largest_payoff}
use Rattle.level_table.proofs.openings.largest_sum.Given as goal

abbrev pub invariant-loop-i : goal.invariant-loop-i
invariant-loop-i l = record {
  sum : l.sum ≡ sum_below (λ i. largest_payoff l.fn.game (get_or l.fn.direction i (pos 0)) i) l.i;
  small : unsigned_abs l.sum ≤ l.i * 2 ^ 28;
}
