use Rattle.std.proofs.Common.{◌≡◌, ℕ, suc, ◌<◌, length}
use Rattle.nfg_text.specs.Wanted.{behind, many_at, bad_past}
use Rattle.dyn_text.specs.Grammar.{successor_or_close_at}
use Rattle.dyn_text.proofs.reading.successors.Given as goal

abbrev pub invariant-loop-successors : goal.invariant-loop-successors
invariant-loop-successors l = (room : ℕ) × (length l.tokens.tokens < room) × (many_at successor_or_close_at bad_past (suc (length l.initial.tokens.tokens)) l.initial.tokens ≡ behind l.successors (many_at successor_or_close_at bad_past room l.tokens))

abbrev pub decreases-loop-successors : goal.decreases-loop-successors
decreases-loop-successors l = length l.tokens.tokens
