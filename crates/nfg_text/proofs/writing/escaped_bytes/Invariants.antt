use Rattle.std.proofs.Common.{◌≡◌, ◌++◌, take}
use Rattle.token_text.specs.Quoted.{escaped}
use Rattle.nfg_text.proofs.writing.escaped_bytes.Given as goal

abbrev pub invariant-loop-i : goal.invariant-loop-i
invariant-loop-i l = l.out ≡ l.initial.out ++ escaped (take l.i l.text)
