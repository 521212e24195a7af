use Rattle.std.proofs.Common.{◌≡◌, ℕ, ◌<◌}
use Rattle.std.specs.Prelude.{true, ◌*ℤ◌, ◌≤ℤ◌}
use Rattle.lp_core.specs.Lines.{along, is_seen, line_at}
use Rattle.lp_core.proofs.Alone.{point_of}
use Rattle.lp_core.proofs.search.forced.Given as goal

abbrev pub invariant-loop-l : goal.invariant-loop-l
invariant-loop-l l =
    (i : ℕ) → i < l.l → is_seen l.program.live l.r i ≡ true → along (line_at l.program.lines i).c (point_of l.pivot) ≤ℤ ((line_at l.program.lines i).h *ℤ l.pivot.size)
