use Rattle.std.proofs.Common.{ℕ, below_more, refl, ap, subst, ◌∙◌, arith}
use Rattle.game_model.specs.Game.{DynamicGame, successor}
use Rattle.level_table.specs.Problem.{Problem}
use Rattle.worker_pass.specs.Scratches.{HoldsState}
use Rattle.worker_pass.proofs.Loads.{loaded_none, loaded_then, state_held, unmarked_none}
use Rattle.worker_pass.proofs.loading.load_after.Goals as goal

pub loop-a-init : goal.loop-a-init
loop-a-init c = record {
  board = c.requires.board;
  scratch = c.requires.scratch;
  loaded = loaded_none c.args.pass.now.seen c.args.scratch.now.levels;
  marks = λ s marked. absurd (unmarked_none 64 s marked);
  after = λ a before. absurd (omega (arith, before));
  first = refl;
}

pub loop-a-preserved : goal.loop-a-preserved
loop-a-preserved c =
    let f = c.args.board.now.frame in
    let inv = c.loop-a.invariant in
    let now = c.load_unmarked.ensures in
    let t = c.load_unmarked.new.scratch.levels in
    let v = c.load_unmarked.new.pass.seen in
    record {
      board = now.board;
      scratch = now.scratch;
      loaded = loaded_then c.args.pass.now.seen c.loop-a.pass.seen v c.args.scratch.now.levels c.loop-a.scratch.levels t inv.loaded now.loaded;
      marks = now.marks;
      after = λ a. below_more (λ (b : ℕ). HoldsState f t v (successor f.problem.game c.args.s b)) c.loop-a.a
          (λ b before. state_held f c.loop-a.pass.seen v c.loop-a.scratch.levels t (successor f.problem.game c.args.s b) now.loaded (inv.after b before))
          (subst (HoldsState f t v) (c.next-next.ensures ∙ ap (λ (g : DynamicGame). successor g c.args.s c.loop-a.a) (c.game-game.ensures.game ∙ ap (λ (p : Problem). p.game) c.problem.ensures)) now.here) a;
      first = now.first ∙ inv.first;
    }
