use Rattle.std.proofs.Common.{◌≡◌, ◌⊎◌, ℕ, ◌+◌, ◌*◌, ◌%◌, ◌<◌, slice_index_or}
use Rattle.level_table.specs.Problem.{direction_count}
use Rattle.settle_test.specs.Parts.{IsRoomy, nothing_found}
use Rattle.settle_test.specs.Verdicts.{IsReadyAt, IsRowVerdict}
use Rattle.settle_test.proofs.parts.test_state.Given as goal

-- the rows before are tested, and the state is ready if a row of it was before
abbrev pub invariant-loop-k : goal.invariant-loop-k
invariant-loop-k l = record {
  room : IsRoomy l.p l.part;
  done : (j : ℕ) → j < l.k → IsRowVerdict l.p l.levels l.slack (l.s * direction_count l.p + j) (slice_index_or l.part.rows j nothing_found);
  ready : l.k < direction_count l.p → ((l.s * direction_count l.p + l.k) % direction_count l.p ≡ 0) ⊎ IsReadyAt l.p l.levels l.part.prepared (l.s * direction_count l.p + l.k);
}
