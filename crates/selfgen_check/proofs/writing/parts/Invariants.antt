use Rattle.std.proofs.Common.{◌≡◌, ◌++◌, take}
use Rattle.std.specs.List.{flat_map}
use Rattle.selfgen_check.specs.Canonical.{part_text}
use Rattle.selfgen_check.proofs.writing.parts.Given as goal

abbrev pub invariant-loop-i : goal.invariant-loop-i
invariant-loop-i l = l.out ≡ l.initial.out ++ flat_map (part_text l.common) (take l.i l.entry.point)
