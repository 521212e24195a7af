use Rattle.std.proofs.Common.{◌≡◌, drop, take, length}
use Rattle.selfgen_check.specs.Measures.{scaled}
use Rattle.selfgen_check.specs.TextFaults.{each}
use Rattle.selfgen_check.proofs.Measuring.{after}
use Rattle.selfgen_check.proofs.measures.point_of.Given as goal

abbrev pub invariant-loop-i : goal.invariant-loop-i
invariant-loop-i l = record {
  same : each (scaled l.common) l.parts ≡ after (take l.i l.point) (each (scaled l.common) (drop l.i l.parts));
  three : length l.point ≡ 3;
}
