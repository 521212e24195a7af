use Rattle.std.proofs.Common.{◌≡◌, ◌<◌, ◌≤◌, ◌^◌, drop}
use Rattle.selfgen_check.specs.Measures.{with_state, with_entry}
use Rattle.selfgen_check.specs.TextFaults.{folded}
use Rattle.selfgen_check.proofs.measures.with_state.Given as goal

abbrev pub invariant-loop-k : goal.invariant-loop-k
invariant-loop-k l = record {
  same : with_state l.common l.entries ≡ folded with_entry l.multiple (drop l.k l.entries);
  positive : 0 < l.multiple;
  small : l.multiple ≤ 2 ^ 44;
}
