use Rattle.std.proofs.Common.{◌≡◌, length}
use Rattle.std.specs.Prelude.{sum_by}
use Rattle.inner_sets.specs.Rows.{AreHeld, AreOpen, choice_of}
use Rattle.inner_sets.specs.Summaries.{AreSummaries}
use Rattle.inner_sets.proofs.settle.take_away.Given as goal

abbrev pub invariant-rounds : goal.invariant-rounds
invariant-rounds g l = record {
  open_rows : AreOpen l.game l.n l.rows;
  count : l.left ≡ sum_by length l.rows;
  summaries : AreSummaries l.game (choice_of l.rows) l.summaries;
  held : AreHeld l.game l.n l.summaries l.stale l.rows;
}

abbrev pub decreases-rounds : goal.decreases-rounds
decreases-rounds g l = l.left
