use Rattle.std.proofs.Common.{◌≡◌, length, map, take}
use Rattle.dyn_text.proofs.assembling.lengths.Given as goal

abbrev pub invariant-loop-i : goal.invariant-loop-i
invariant-loop-i l = l.items.items ≡ map length (take l.i l.names)
