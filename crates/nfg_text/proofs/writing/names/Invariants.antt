use Rattle.std.proofs.Common.{◌≡◌, ◌++◌, take}
use Rattle.nfg_text.specs.Canonical.{names_text}
use Rattle.nfg_text.proofs.writing.names.Given as goal

abbrev pub invariant-loop-i : goal.invariant-loop-i
invariant-loop-i l = l.out ≡ l.initial.out ++ names_text (take l.i l.texts)
