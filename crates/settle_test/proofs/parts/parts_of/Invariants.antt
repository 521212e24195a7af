use Rattle.std.proofs.Common.{◌≡◌, All, vec_len}
use Rattle.settle_test.specs.Parts.{IsRoomy}
use Rattle.settle_test.proofs.parts.parts_of.Given as goal

abbrev pub invariant-loop : goal.invariant-loop
invariant-loop l = record {
  one_each : vec_len l.parts ≡ l.counter;
  room : All (IsRoomy l.p) l.parts.items;
}
