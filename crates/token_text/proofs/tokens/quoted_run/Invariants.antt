use Rattle.std.proofs.Common.{◌≡◌, take, drop}
use Rattle.token_text.specs.Tokens.{quoted_bytes}
use Rattle.token_text.proofs.Lexing.{behind}
use Rattle.token_text.proofs.tokens.quoted_run.Given as goal

abbrev pub invariant-loop-i : goal.invariant-loop-i
invariant-loop-i l = quoted_bytes 34 l.bytes ≡ behind (take l.i l.bytes) (quoted_bytes l.before (drop l.i l.bytes))
