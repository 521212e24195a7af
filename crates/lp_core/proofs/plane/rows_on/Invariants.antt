use Rattle.std.proofs.Common.{◌≡◌, ◌≤◌, length, max}
use Rattle.lp_core.specs.Turned.{AreLeft}
use Rattle.lp_core.proofs.plane.rows_on.Given as goal

abbrev pub invariant-loop-l : goal.invariant-loop-l
invariant-loop-l l = (6 ≤ l.l) × (l.l ≤ max l.r 6) × (l.left.dimension ≡ 2) × (length l.left.rows ≡ l.l) × AreLeft l.pivot l.rows l.l l.left
