use Rattle.std.proofs.Common.{◌≡◌, ℕ, suc, ◌<◌, length}
use Rattle.nfg_text.specs.Wanted.{behind, many_at, bad_past}
use Rattle.selfgen_check.specs.Grammar.{whole_or_close_at}
use Rattle.selfgen_check.proofs.reading.wholes.Given as goal

abbrev pub invariant-loop-numbers : goal.invariant-loop-numbers
invariant-loop-numbers l = (room : ℕ) × (length l.tokens.tokens < room) × (many_at whole_or_close_at bad_past (suc (length l.initial.tokens.tokens)) l.initial.tokens ≡ behind l.numbers (many_at whole_or_close_at bad_past room l.tokens))

abbrev pub decreases-loop-numbers : goal.decreases-loop-numbers
decreases-loop-numbers l = length l.tokens.tokens
