use Rattle.std.proofs.Common.{◌≡◌, drop}
use Rattle.selfgen_check.specs.Measures.{scaled_state}
use Rattle.selfgen_check.specs.TextFaults.{each}
use Rattle.selfgen_check.proofs.Measuring.{after}
use Rattle.selfgen_check.proofs.measures.entries_of.Given as goal

abbrev pub invariant-loop-s : goal.invariant-loop-s
invariant-loop-s l = each (scaled_state l.common) l.written ≡ after l.entries (each (scaled_state l.common) (drop l.s l.written))
