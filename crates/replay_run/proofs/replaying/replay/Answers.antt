use Rattle.std.proofs.Common.{◌≡◌, ℕ, ◌+◌, ◌-◌, List, [], ◌∷◌, ◌++◌, length, take, refl, sym, ap, subst, ◌∙◌, arith}
use Rattle.level_table.specs.declared.reason.Note.{Note}
use Rattle.level_table.specs.Notes.{HasRoomFor}
use Rattle.schedule_core.specs.Frame.{Frame, IsOpened, frame_from, rows_of}
use Rattle.schedule_core.specs.Schedules.{FitsMove}
use Rattle.schedule_core.proofs.Opening.{opening_starts}
use Rattle.schedule_core.proofs.Room.{fresh_room}
use Rattle.std.proofs.lemmas.List.{take_more, take_all}
use Rattle.level_table.specs.Problem.{IsProblem, Problem}
use Rattle.level_table.specs.Room.{Reasons}
use Rattle.schedule_core.specs.declared.moves.Move.{Move}
use Rattle.schedule_core.specs.Core.{Core}
use Rattle.schedule_core.specs.Replays.{IsReplay}
use Rattle.schedule_core.specs.Runs.{started}
use Rattle.schedule_core.proofs.Replays.{replay_more}
use Rattle.schedule_core.proofs.Runs.{all_bound}
use Rattle.replay_run.specs.Ready.{IsReady}
use Rattle.replay_run.proofs.Closed.{start_ready, workers_there}
use Rattle.replay_run.proofs.replaying.replay.Goals as goal

pub start-requires-clause-start : goal.start-requires-clause-start
start-requires-clause-start c =
    let f = frame_from c.args.game.now c.args.dirs.now c.args.grid c.args.opening.now in
    subst (λ (ns : List Note). IsOpened f ns) (sym (c.in_ok-notes.ensures {u = tt}).none)
    (opening_starts f (subst (λ (p : Problem). IsProblem p) c.new-p.ensures.problem c.new-p.ensures.is_problem) c.states.ensures.whole c.requires.opening)

pub start-requires-clause-room : goal.start-requires-clause-room
start-requires-clause-room c = fresh_room c.args.game.now c.in_ok-notes.notes (c.in_ok-notes.ensures {u = tt}).spare (c.in_ok-notes.ensures {u = tt}).each

pub loop-i-init : goal.loop-i-init
loop-i-init c =
    let f = frame_from c.args.game.now c.args.dirs.now c.args.grid c.args.opening.now in
    let n = c.args.schedule.now.workers - 1 in
    let is : c.in_ok-core.core ≡ started f n [] = (c.in_ok-core.ensures {u = tt}).core ∙ ap (λ (ns : List Note). started f n ns) (c.in_ok-notes.ensures {u = tt}).none in record {
      frame = ap (λ (x : Core). x.frame) is;
      workers = ap (λ (x : Core). length x.readers) is ∙ workers_there f n c.args.schedule.now.workers c.requires.fits.some refl;
      ready = subst IsReady (sym is) (start_ready f n);
      replay = is;
      room = λ s state. omega (arith, c.most_profiles.ensures s state, ap (λ (r : Reasons). length r.list + r.spare) (c.in_ok-reasons.ensures {u = tt}));
    }

pub make_move-requires-clause-same : goal.make_move-requires-clause-same
make_move-requires-clause-same c = ap (λ (f : Frame). f.problem) c.loop-i.invariant.frame ∙ sym c.new-p.ensures.problem

pub make_move-requires-clause-fits : goal.make_move-requires-clause-fits
make_move-requires-clause-fits c =
    subst (λ (f : Frame). FitsMove (length c.loop-i.core.readers) (rows_of f) c.get.result.now) (sym c.loop-i.invariant.frame)
    (subst (λ (n : ℕ). FitsMove n (rows_of (frame_from c.args.game.now c.args.dirs.now c.args.grid c.args.opening.now)) c.get.result.now) (sym c.loop-i.invariant.workers)
    (subst (FitsMove c.args.schedule.now.workers _) (sym c.get.ensures) (c.requires.fits.moves c.loop-i.i c.get.result.now (omega arith))))

pub make_move-requires-clause-ready : goal.make_move-requires-clause-ready
make_move-requires-clause-ready c = c.loop-i.invariant.ready

pub make_move-requires-clause-room : goal.make_move-requires-clause-room
make_move-requires-clause-room c = subst (λ (p : Problem). HasRoomFor p.game (length c.loop-i.scratch.reasons.list + c.loop-i.scratch.reasons.spare)) (sym c.new-p.ensures.problem) c.loop-i.invariant.room

pub loop-i-preserved : goal.loop-i-preserved
loop-i-preserved c =
    let f = frame_from c.args.game.now c.args.dirs.now c.args.grid c.args.opening.now in
    let start = started f (c.args.schedule.now.workers - 1) [] in
    let moves = c.args.schedule.now.moves in record {
      frame = c.make_move.ensures.frame ∙ c.loop-i.invariant.frame;
      workers = c.make_move.ensures.workers ∙ c.loop-i.invariant.workers;
      ready = c.make_move.ensures.ready;
      replay = subst (λ (ms : List Move). IsReplay start ms c.make_move.new.core)
          (ap (λ (m : Move). take c.loop-i.i moves ++ m ∷ []) c.get.ensures ∙ sym (take_more moves c.loop-i.i c.get.result.now (omega arith)))
          (replay_more start c.loop-i.core c.make_move.new.core (take c.loop-i.i moves) c.get.result.now c.loop-i.invariant.replay c.make_move.ensures.moved);
      room = subst (λ (p : Problem). HasRoomFor p.game (length c.make_move.new.scratch.reasons.list + c.make_move.new.scratch.reasons.spare)) c.new-p.ensures.problem c.make_move.ensures.room;
    }

pub returns-clause-replay : goal.returns-clause-replay
returns-clause-replay c =
    let f = frame_from c.args.game.now c.args.dirs.now c.args.grid c.args.opening.now in
    let start = started f (c.args.schedule.now.workers - 1) [] in
    subst (λ (ms : List Move). IsReplay start ms c.loop-i.core) (take_all c.loop-i.i c.args.schedule.now.moves (omega arith)) c.loop-i.invariant.replay

pub returns-clause-bound : goal.returns-clause-bound
returns-clause-bound c = all_bound c.loop-i.core c.rules.ensures.frame c.rules.ensures.valid
