use Rattle.std.proofs.Common.{◌≡◌, ◌++◌, drop}
use Rattle.token_text.specs.Tokens.{unescaped}
use Rattle.token_text.proofs.kept.text.Given as goal

abbrev pub invariant-loop-i : goal.invariant-loop-i
invariant-loop-i l = unescaped l.raw ≡ l.text ++ unescaped (drop l.i l.raw)
