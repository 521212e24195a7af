use Rattle.std.proofs.Common.{◌≡◌, ℕ, suc, ◌<◌, length, All}
use Rattle.nfg_text.specs.Wanted.{behind, many_at, bad_past}
use Rattle.schedule_core.specs.Schedules.{FitsMove, move_or_close_at}
use Rattle.schedule_core.proofs.reading.moves.Given as goal

abbrev pub invariant-loop-moves : goal.invariant-loop-moves
invariant-loop-moves l =
    (room : ℕ) × (length l.tokens.tokens < room)
    × (many_at (move_or_close_at l.fn.workers l.fn.rows) bad_past (suc (length l.initial.tokens.tokens)) l.initial.tokens ≡ behind l.moves (many_at (move_or_close_at l.fn.workers l.fn.rows) bad_past room l.tokens))
    × All (FitsMove l.fn.workers l.fn.rows) l.moves

abbrev pub decreases-loop-moves : goal.decreases-loop-moves
decreases-loop-moves l = length l.tokens.tokens
