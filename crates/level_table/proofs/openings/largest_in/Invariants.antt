use Rattle.std.proofs.Common.{◌≡◌, ◌-◌, ◌^◌, ◌≤◌, ◌*ℤ◌}
use Rattle.std.specs.Int.RustNames.{unsigned_abs}
use Rattle.game_model.specs.Game.{payoff_at}
use Rattle.level_table.specs.Problem.{largest}
use Rattle.level_table.proofs.openings.largest_in.Given as goal

abbrev pub invariant-loop-a : goal.invariant-loop-a
invariant-loop-a l = record {
  largest : l.most ≡ largest (λ a. l.fn.factor *ℤ payoff_at l.fn.game l.fn.s a l.fn.i) (l.a - 1);
  small : unsigned_abs l.most ≤ 2 ^ 28;
}
