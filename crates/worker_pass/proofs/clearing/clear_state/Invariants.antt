use Rattle.std.proofs.Common.{◌≡◌, ℕ, ◌+◌, ◌*◌, ◌<◌}
use Rattle.level_table.specs.declared.level.Level.TheVariants.{Empty}
use Rattle.level_table.specs.Levels.{level_at}
use Rattle.schedule_core.specs.Frame.{IsFallen}
use Rattle.worker_pass.specs.Scratches.{IsScratch}
use Rattle.worker_pass.proofs.clearing.clear_state.Given as goal

abbrev pub invariant-loop-k : goal.invariant-loop-k
invariant-loop-k l = record {
  owner : l.owner.board ≡ l.board;
  scratch : IsScratch l.board.frame.problem l.scratch;
  same : l.scratch.levels ≡ l.owner.seen;
  fell : IsFallen l.fn.owner.seen l.owner.seen;
  here : (k : ℕ) → k < l.k → level_at l.owner.seen (l.s * l.board.frame.start.directions + k) ≡ Empty;
  others : (r : ℕ) → ((k : ℕ) → k < l.board.frame.start.directions → r ≡ l.s * l.board.frame.start.directions + k → ⊥) → level_at l.owner.seen r ≡ level_at l.fn.owner.seen r;
  notes : l.owner.notes ≡ l.fn.owner.notes;
}
