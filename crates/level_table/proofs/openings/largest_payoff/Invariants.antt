use Rattle.std.proofs.Common.{◌≡◌, ◌-◌, ◌^◌, ◌≤◌, ◌*ℤ◌}
use Rattle.std.specs.Int.RustNames.{unsigned_abs}
use Rattle.game_model.specs.Game.{payoff_at, counts, profile_count}
use Rattle.level_table.specs.Problem.{largest}
use Rattle.level_table.proofs.openings.largest_payoff.Given as goal

abbrev pub invariant-loop-s : goal.invariant-loop-s
invariant-loop-s l = record {
  largest : l.most ≡ largest (λ s. largest (λ a. l.fn.factor *ℤ payoff_at l.fn.game s a l.fn.i) (profile_count (counts l.fn.game s) - 1)) (l.s - 1);
  small : unsigned_abs l.most ≤ 2 ^ 28;
}
