use Rattle.std.proofs.Common.{◌≡◌, ℕ, suc, ◌<◌, length}
use Rattle.nfg_text.specs.Wanted.{behind, many_at, bad_past}
use Rattle.nfg_text.specs.Grammar.{outcome_or_close_at}
use Rattle.nfg_text.proofs.outcomes.outcomes.Given as goal

abbrev pub invariant-loop-outcomes : goal.invariant-loop-outcomes
invariant-loop-outcomes l = (room : ℕ) × (length l.tokens.tokens < room) × (many_at outcome_or_close_at bad_past (suc (length l.initial.tokens.tokens)) l.initial.tokens ≡ behind l.outcomes (many_at outcome_or_close_at bad_past room l.tokens))

abbrev pub decreases-loop-outcomes : goal.decreases-loop-outcomes
decreases-loop-outcomes l = length l.tokens.tokens
