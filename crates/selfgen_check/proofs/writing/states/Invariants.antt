use Rattle.std.proofs.Common.{◌≡◌, ◌++◌, take}
use Rattle.std.specs.List.{flat_map}
use Rattle.selfgen_check.specs.Canonical.{state_lines}
use Rattle.selfgen_check.proofs.writing.states.Given as goal

abbrev pub invariant-loop-s : goal.invariant-loop-s
invariant-loop-s l = l.out ≡ l.initial.out ++ flat_map (state_lines l.corr.common) (take l.s l.corr.entries)
