use Rattle.std.proofs.Common.{◌≡◌, ◌*◌, ◌≤◌, take}
use Rattle.game_model.specs.Game.{counts}
use Rattle.game_model.specs.SelfGeneration.{deviation_count}
use Rattle.selfgen_check.proofs.sums.deviations_before.Given as goal

abbrev pub invariant-loop-j : goal.invariant-loop-j
invariant-loop-j l = record {
  count : l.count ≡ deviation_count (take l.j (counts l.game l.s));
  few : l.count ≤ 16 * l.j;
}
