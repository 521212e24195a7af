use Rattle.std.proofs.Common.{◌≡◌, ◌*◌, ◌^◌, ◌≤◌, take}
use Rattle.std.specs.Prelude.{unsigned_abs}
use Rattle.game_model.specs.SelfGeneration.{weighted_part}
use Rattle.selfgen_check.proofs.sums.weighted_sum.Given as goal

abbrev pub invariant-loop-k : goal.invariant-loop-k
invariant-loop-k l = record {
  sum : l.sum ≡ weighted_part l.entries l.i (take l.k l.lottery);
  small : unsigned_abs l.sum ≤ l.k * 2 ^ 113;
}
