use Rattle.std.proofs.Common.{◌≡◌, ◌+◌, ◌*◌, drop, take}
use Rattle.game_model.specs.Game.{counts, profile_count, profile_number}
use Rattle.selfgen_check.proofs.sums.number_of.Given as goal

abbrev pub invariant-loop-i : goal.invariant-loop-i
invariant-loop-i l = record {
  number : l.number + l.step * profile_number (drop l.i (counts l.game l.s)) (drop l.i l.profile) ≡ profile_number (counts l.game l.s) l.profile;
  step : l.step ≡ profile_count (take l.i (counts l.game l.s));
}
