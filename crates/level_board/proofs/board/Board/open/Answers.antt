use Rattle.std.proofs.Common.{◌≡◌, ◌+◌, sym, ap, subst, refl, ◌∙◌}
use Rattle.atomic_table.specs.Table.{Me}
use Rattle.level_table.specs.Problem.{IsProblem, problem_of}
use Rattle.schedule_core.specs.Frame.{Frame, IsFrame, rows_of}
use Rattle.schedule_core.specs.Room.{HasRoom}
use Rattle.schedule_core.proofs.Opening.{frame_opened, start_small}
use Rattle.level_board.specs.declared.view.View.{View}
use Rattle.level_board.specs.Rule.{frame_of, frame_of_key}
use Rattle.level_board.proofs.Opening.{keyed, opens_as, words_count, owner_opened_as}
use Rattle.level_board.proofs.board.Board.open.Goals as goal

pub words_of-requires : goal.words_of-requires
words_of-requires c =
    let f : Frame = record { problem = problem_of c.args.game.now c.args.dirs.now c.args.grid; start = c.args.start.now } in
    let ok = frame_opened f c.args.notes.list (subst IsProblem c.new-problem.ensures.problem c.new-problem.ensures.is_problem) c.states.ensures.whole c.requires.start in
    start_small f c.args.notes.list ok c.requires.start

pub of_words-requires : goal.of_words-requires
of_words-requires c =
    let f : Frame = record { problem = problem_of c.args.game.now c.args.dirs.now c.args.grid; start = c.args.start.now } in
    let ok = frame_opened f c.args.notes.list (subst IsProblem c.new-problem.ensures.problem c.new-problem.ensures.is_problem) c.states.ensures.whole c.requires.start in
    opens_as _ f c.args.notes.list _ (keyed _ c.args.game.now c.args.dirs.now c.args.grid c.args.start.now c.of.ensures c.of-2.ensures refl c.of-3.ensures) ok c.requires.start (c.deref.ensures.value ∙ c.in_ok-words.ensures {u = tt})

pub invariant_of-result : goal.invariant_of-result
invariant_of-result c =
    let f : Frame = record { problem = problem_of c.args.game.now c.args.dirs.now c.args.grid; start = c.args.start.now } in
    let ok = frame_opened f c.args.notes.list (subst IsProblem c.new-problem.ensures.problem c.new-problem.ensures.is_problem) c.states.ensures.whole c.requires.start in
    let told = c.in_ok-table.ensures {u = tt} in
    let same : frame_of_key c.in_ok-table.table.shared.key ≡ f = ap frame_of_key told.5 ∙ keyed _ c.args.game.now c.args.dirs.now c.args.grid c.args.start.now c.of.ensures c.of-2.ensures refl c.of-3.ensures in (
      subst IsFrame (sym same) ok,
      told.0 ∙ (words_count f ok _ (c.deref.ensures.value ∙ c.in_ok-words.ensures {u = tt}) ∙ ap (λ (g : Frame). rows_of g + 1) (sym same)),
      told.1,
      c.new-problem.ensures.problem ∙ ap (λ (g : Frame). g.problem) (sym same),
    )

pub invariant_of-result-2 : goal.invariant_of-result-2
invariant_of-result-2 c =
    let f : Frame = record { problem = problem_of c.args.game.now c.args.dirs.now c.args.grid; start = c.args.start.now } in
    let ok = frame_opened f c.args.notes.list (subst IsProblem c.new-problem.ensures.problem c.new-problem.ensures.is_problem) c.states.ensures.whole c.requires.start in
    let told = c.in_ok-table.ensures {u = tt} in
    let me = told.4 in
    let key = keyed _ c.args.game.now c.args.dirs.now c.args.grid c.args.start.now c.of.ensures c.of-2.ensures refl c.of-3.ensures in
    let first = ap (λ (m : Me (Unit {0}) View). m.0) me in (
      owner_opened_as _ _ f c.args.notes.list key first ok c.requires.start,
      ap (λ (m : Me (Unit {0}) View). m.1) me,
      subst (λ (v : View). HasRoom (frame_of v).problem.game c.args.notes) (sym first) (subst (λ (g : Frame). HasRoom g.problem.game c.args.notes) (sym key) c.requires.room),
    )
