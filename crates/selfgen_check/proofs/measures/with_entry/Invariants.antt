use Rattle.std.proofs.Common.{◌≡◌, ◌<◌, ◌≤◌, ◌^◌, drop}
use Rattle.selfgen_check.specs.Measures.{with_entry, with_part}
use Rattle.selfgen_check.specs.TextFaults.{folded}
use Rattle.selfgen_check.proofs.measures.with_entry.Given as goal

abbrev pub invariant-loop-i : goal.invariant-loop-i
invariant-loop-i l = record {
  same : with_entry l.common l.entry ≡ folded with_part l.multiple (drop l.i l.entry.point);
  positive : 0 < l.multiple;
  small : l.multiple ≤ 2 ^ 44;
}
