use Rattle.std.proofs.Common.{◌≡◌, ◌*◌, ◌^◌, ◌≤◌, take}
use Rattle.std.specs.Prelude.{pos}
use Rattle.game_model.specs.SelfGeneration.{total_weight}
use Rattle.deviation_laws.proofs.gains.total_of.Given as goal

abbrev pub invariant-loop-k : goal.invariant-loop-k
invariant-loop-k l = record {
  total : l.total ≡ pos (total_weight (take l.k l.lottery));
  small : total_weight (take l.k l.lottery) ≤ l.k * 2 ^ 83;
}
