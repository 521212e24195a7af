use Rattle.std.proofs.Common.{◌≡◌, ◌<◌, ◌≤◌, ◌^◌, drop}
use Rattle.selfgen_check.specs.Measures.{with_state}
use Rattle.selfgen_check.specs.TextFaults.{folded}
use Rattle.selfgen_check.proofs.measures.common_of.Given as goal

abbrev pub invariant-loop-s : goal.invariant-loop-s
invariant-loop-s l = record {
  same : folded with_state l.denominator l.states ≡ folded with_state l.common (drop l.s l.states);
  positive : 0 < l.common;
  small : l.common ≤ 2 ^ 44;
}
