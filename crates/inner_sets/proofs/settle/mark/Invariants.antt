use Rattle.std.proofs.Common.{◌≡◌, ℕ, ◌<◌, false, length}
use Rattle.std.specs.Prelude.{slice_index_or}
use Rattle.inner_sets.specs.Rounds.{IsUnmoved}
use Rattle.inner_sets.proofs.settle.mark.Given as goal

abbrev pub invariant-loop-s : goal.invariant-loop-s
invariant-loop-s l = record {
  count : length l.stale ≡ length l.initial.stale;
  unmoved : (t : ℕ) → t < l.s → slice_index_or l.stale t false ≡ false → IsUnmoved l.game l.rows l.summaries t;
}
