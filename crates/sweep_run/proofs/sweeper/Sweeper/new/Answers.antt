use Rattle.std.proofs.Common.{◌≡◌, sym, subst, ◌∙◌, arith}
use Rattle.level_table.specs.Levels.{Table, levels_in}
use Rattle.level_table.specs.Notes.{HasRoomFor}
use Rattle.level_table.specs.Problem.{Problem}
use Rattle.level_table.specs.Supported.{IsEven}
use Rattle.schedule_core.specs.Frame.{Frame, IsFrame, IsSeen, frame_from}
use Rattle.schedule_core.proofs.Levels.{some_row}
use Rattle.worker_pass.specs.Clearings.{AreNamed}
use Rattle.worker_pass.specs.Scratches.{IsScratch}
use Rattle.worker_pass.specs.Sweeps.{HoldsButFirst, IsCleared}
use Rattle.worker_pass.proofs.Falling.{seen_on}
use Rattle.worker_pass.proofs.States.{cleared_but_first}
use Rattle.sweep_run.proofs.Naming.{named_start}
use Rattle.sweep_run.proofs.Sweeping.{cleared_start}
use Rattle.sweep_run.proofs.sweeper.Sweeper.new.Goals as goal

pub returns-clause-sweeper : goal.returns-clause-sweeper
returns-clause-sweeper c =
    let f : Frame = c.in_ok-board.board.frame in
    let first : Frame = frame_from c.args.game.now c.args.dirs.now c.args.grid c.args.start in
    let e : f ≡ first = c.in_ok-board.ensures.frame in
    let o = c.in_ok-board.owner in
    let ok : IsFrame f = c.rules.ensures in
    let levels : c.with_levels-scratch.result.levels ≡ c.args.start = c.with_levels-scratch.ensures.levels in
    let seen : o.seen ≡ c.args.start = c.in_ok-board.ensures.seen in
    let notes : c.crew.new.owner.notes ≡ c.args.notes.list = c.in_ok-workers.ensures.notes ∙ c.in_ok-board.ensures.notes in
    let start : IsCleared first c.args.notes.list c.args.start = cleared_start first c.args.notes.list (subst IsFrame e ok) c.requires.start.start in
    let cleared : IsCleared f o.notes o.seen = subst (λ (X : Type 0). X) (λ i. IsCleared (sym e i) (sym c.in_ok-board.ensures.notes i) (sym seen i)) start in
    let sound : IsSeen f c.with_levels-scratch.result.levels = subst (IsSeen f) (seen ∙ sym levels) (seen_on _ _ _ c.in_ok-board.ensures.board c.rules-2.ensures.seen) in
    record {
      frame = ok;
      owner = c.in_ok-workers.ensures.owner;
      scratch = subst (λ (q : Problem). IsScratch q c.with_levels-scratch.result) c.problem-2.ensures c.with_levels-scratch.ensures.scratch;
      workers = c.in_ok-workers.ensures.workers;
      below = c.in_ok-workers.ensures.below;
      cleared = cleared_but_first f o.notes c.crew.new.owner.notes o.seen c.crew.new.owner.seen c.in_ok-workers.ensures.notes c.in_ok-workers.ensures.seen cleared;
      sound = sound;
      even = subst (λ (X : Type 0). X) (λ i. IsEven (sym e i).problem (levels_in (sym levels i))) c.requires.start.start.even;
      named = subst (λ (X : Type 0). X) (λ i. AreNamed (sym e i).problem (levels_in (sym levels i)) (sym notes i))
          (named_start first.problem (levels_in c.args.start) c.args.notes.list (subst IsFrame e ok).problem c.requires.start.start);
      seen = subst (λ (t : Table). HoldsButFirst t c.crew.new.owner.seen) (seen ∙ sym levels) c.in_ok-workers.ensures.seen;
      room = subst (λ (g : Frame). HasRoomFor g.problem.game c.in_ok-prepared.prepared.room) (sym e) (c.in_ok-prepared.ensures {u = tt});
      failed = omega (arith, some_row f ok, sound.one_each);
    }
