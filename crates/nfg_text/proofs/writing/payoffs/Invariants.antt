use Rattle.std.proofs.Common.{◌≡◌, ◌++◌, take}
use Rattle.nfg_text.specs.Canonical.{payoffs_text}
use Rattle.nfg_text.proofs.writing.payoffs.Given as goal

abbrev pub invariant-loop-i : goal.invariant-loop-i
invariant-loop-i l = l.out ≡ l.fn.out ++ payoffs_text (take l.i l.numbers)
