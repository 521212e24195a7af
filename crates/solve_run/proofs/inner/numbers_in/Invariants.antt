use Rattle.std.proofs.Common.{◌≡◌, ℕ, ◌<◌, [], length}
use Rattle.std.specs.Prelude.{slice_index, slice_index_or}
use Rattle.game_model.specs.SelfGeneration.{no_entry, profile_of}
use Rattle.solve_run.proofs.inner.numbers_in.Given as goal

abbrev pub invariant-loop-k : goal.invariant-loop-k
invariant-loop-k l = record {
  one_each : length l.numbers ≡ l.k;
  each : (j : ℕ) → j < l.k → slice_index l.numbers j ≡ profile_of l.game l.s (slice_index_or (slice_index_or l.corr.entries l.s []) j no_entry);
}
