use Rattle.std.proofs.Common.{◌≡◌, drop}
use Rattle.selfgen_check.specs.Measures.{scaled_state, scaled_entry}
use Rattle.selfgen_check.specs.TextFaults.{each}
use Rattle.selfgen_check.proofs.Measuring.{after}
use Rattle.selfgen_check.proofs.measures.state_of.Given as goal

abbrev pub invariant-loop-k : goal.invariant-loop-k
invariant-loop-k l = scaled_state l.common l.written ≡ after l.entries (each (scaled_entry l.common) (drop l.k l.written))
