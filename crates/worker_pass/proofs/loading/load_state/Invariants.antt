use Rattle.std.proofs.Common.{◌≡◌, ℕ, ◌+◌, ◌*◌, ◌<◌}
use Rattle.level_table.specs.Levels.{level_at}
use Rattle.worker_pass.specs.Scratches.{IsLoaded, IsScratch}
use Rattle.worker_pass.proofs.loading.load_state.Given as goal

abbrev pub invariant-loop-k : goal.invariant-loop-k
invariant-loop-k l = record {
  board : l.pass.board ≡ l.board;
  scratch : IsScratch l.board.frame.problem l.scratch;
  loaded : IsLoaded l.fn.pass.seen l.pass.seen l.fn.scratch.levels l.scratch.levels;
  here : (k : ℕ) → k < l.k → level_at l.scratch.levels (l.s * l.board.frame.start.directions + k) ≡ level_at l.pass.seen (l.s * l.board.frame.start.directions + k);
  first : level_at l.pass.seen l.first ≡ level_at l.fn.pass.seen l.first;
}
