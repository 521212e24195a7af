use Rattle.std.proofs.Common.{◌<◌, ap, arith}
use Rattle.game_model.specs.Game.{states}
use Rattle.level_table.specs.Levels.{levels_in}
use Rattle.level_table.specs.Problem.{Problem}
use Rattle.level_board.proofs.Moments.{fallen_trans}
use Rattle.schedule_core.specs.Frame.{IsSeen}
use Rattle.worker_pass.proofs.Falling.{below_rows, seen_on}
use Rattle.worker_pass.proofs.States.{AreMarkedOff, cleared_more, cleared_next, gone_dead, is_even, kept_along, marked_off}
use Rattle.worker_pass.proofs.clearing.clear_states.Goals as goal

pub loop-s-preserved : goal.loop-s-preserved
loop-s-preserved c =
    let f = c.args.board.now.frame in
    let p = f.problem in
    let inv = c.loop-s.invariant in
    let now = c.clear_dead-count.ensures in
    let entry = c.args.owner.now in
    let mid = c.loop-s.owner in
    let new = c.clear_dead-count.new.owner in
    let entry_seen : IsSeen f entry.seen = seen_on _ _ _ c.requires.owner c.rules-2.ensures.seen in
    let mid_seen : IsSeen f mid.seen = seen_on _ _ _ inv.owner c.rules-in-loop-s.ensures.seen in
    let marked : AreMarkedOff f mid.notes mid.seen = marked_off c.args.board.now mid c.rules.ensures inv.owner c.rules-in-loop-s.ensures.seen c.rules-in-loop-s.ensures.named inv.cleared in
    let known : c.loop-s.s < states p.game = omega (arith, ap (λ (q : Problem). states q.game) c.problem-p.ensures) in
    record {
      owner = now.owner;
      scratch = now.scratch;
      same = now.same;
      cleared = now.cleared;
      fell = fallen_trans entry.seen mid.seen new.seen inv.fell now.fell;
      clearing = cleared_next p c.loop-s.s (levels_in entry.seen) entry.notes (levels_in mid.seen) mid.notes (levels_in new.seen) new.notes inv.clearing now.one;
      noted = λ start kept before. now.noted start (kept_along f entry.seen mid.seen start c.rules.ensures entry_seen mid_seen kept) (inv.noted start kept before);
      dead = cleared_more p (levels_in entry.seen) (levels_in mid.seen) (levels_in new.seen) c.loop-s.s c.rules.ensures.problem known (below_rows p entry.seen mid.seen inv.fell) (below_rows p mid.seen new.seen now.fell) inv.dead
          (λ k dir. gone_dead p c.loop-s.s k (levels_in mid.seen) (levels_in new.seen) mid.notes new.notes c.rules.ensures.problem (is_even f mid.notes mid.seen marked) known dir now.one);
      notes = omega (arith, inv.notes, now.notes);
      few = omega (arith, inv.few, now.most);
    }
