use Rattle.std.proofs.Common.{◌≡◌, ◌++◌, take}
use Rattle.nfg_text.specs.Canonical.{counts_text}
use Rattle.nfg_text.proofs.writing.counts.Given as goal

abbrev pub invariant-loop-i : goal.invariant-loop-i
invariant-loop-i l = l.out ≡ l.initial.out ++ counts_text (take l.i l.numbers)
