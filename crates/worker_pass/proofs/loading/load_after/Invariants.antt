use Rattle.std.proofs.Common.{◌≡◌, ℕ, ◌<◌}
use Rattle.game_model.specs.Game.{successor}
use Rattle.level_table.specs.Levels.{level_at}
use Rattle.worker_pass.specs.Scratches.{HoldsMarked, HoldsState, IsLoaded, IsScratch}
use Rattle.worker_pass.proofs.loading.load_after.Given as goal

abbrev pub invariant-loop-a : goal.invariant-loop-a
invariant-loop-a l = record {
  board : l.pass.board ≡ l.board;
  scratch : IsScratch l.board.frame.problem l.scratch;
  loaded : IsLoaded l.fn.pass.seen l.pass.seen l.fn.scratch.levels l.scratch.levels;
  marks : HoldsMarked l.board.frame l.scratch.levels l.pass.seen l.marks;
  after : (a : ℕ) → a < l.a → HoldsState l.board.frame l.scratch.levels l.pass.seen (successor l.board.frame.problem.game l.s a);
  first : level_at l.pass.seen l.first ≡ level_at l.fn.pass.seen l.first;
}
