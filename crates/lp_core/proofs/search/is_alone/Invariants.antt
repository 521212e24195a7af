use Rattle.std.proofs.Common.{◌≡◌, ◌≢◌, ℕ, ◌<◌}
use Rattle.std.specs.Prelude.{false, slice_index_or}
use Rattle.lp_core.proofs.search.is_alone.Given as goal

abbrev pub invariant-loop-k : goal.invariant-loop-k
invariant-loop-k l = (i : ℕ) → i < l.k → i ≢ l.place → slice_index_or l.live i false ≡ false
