use Rattle.std.proofs.Common.{◌≡◌, take}
use Rattle.dyn_text.proofs.file_name.bytes_of.Given as goal

abbrev pub invariant-loop-i : goal.invariant-loop-i
invariant-loop-i l = l.bytes.items ≡ take l.i l.text
