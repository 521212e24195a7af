use Rattle.std.proofs.Common.{◌≡◌, ℕ, ◌<◌, [], length}
use Rattle.std.specs.Prelude.{slice_index_or}
use Rattle.solve_run.specs.Inner.{AreNumbersOf}
use Rattle.solve_run.proofs.inner.numbers_of.Given as goal

abbrev pub invariant-loop-s : goal.invariant-loop-s
invariant-loop-s l = record {
  one_list_each : length l.lists ≡ l.s;
  each : (t : ℕ) → t < l.s → AreNumbersOf l.set.game t (slice_index_or l.set.corr.entries t []) (slice_index_or l.lists t []);
}
