use Rattle.std.proofs.Common.{◌≤◌}
use Rattle.lp_core.specs.Lines.{is_seen}
use Rattle.lp_core.specs.Search.{IsBest}
use Rattle.lp_core.specs.Planar.{AreNarrow, lines_of, optimum_of, whole_of}
use Rattle.lp_core.proofs.planar.walk.Given as goal

abbrev pub invariant-loop-r : goal.invariant-loop-r
invariant-loop-r l = (4 ≤ l.r) × (AreNarrow (lines_of l.rows) l.r) × (IsBest (is_seen (whole_of l.rows).live l.r) (whole_of l.rows) l.objective (optimum_of l.spot))
