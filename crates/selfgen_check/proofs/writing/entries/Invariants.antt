use Rattle.std.proofs.Common.{◌≡◌, ◌++◌, take}
use Rattle.std.specs.List.{flat_map}
use Rattle.selfgen_check.specs.Canonical.{entry_line}
use Rattle.selfgen_check.proofs.writing.entries.Given as goal

abbrev pub invariant-loop-k : goal.invariant-loop-k
invariant-loop-k l = l.out ≡ l.initial.out ++ flat_map (entry_line l.common) (take l.k l.list)
