use Rattle.std.proofs.Common.{◌≡◌, ℕ, ◌<◌, false, true, length}
use Rattle.std.specs.Prelude.{slice_index_or}
use Rattle.inner_sets.proofs.settle.all_stale.Given as goal

abbrev pub invariant-loop-s : goal.invariant-loop-s
invariant-loop-s l = record {
  count : length l.flags.items ≡ l._s;
  set : (t : ℕ) → t < l._s → slice_index_or l.flags.items t false ≡ true;
}
