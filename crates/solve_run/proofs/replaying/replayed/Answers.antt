use Rattle.std.proofs.Common.{◌≡◌, ◌∙◌, ℕ, Err, inr, sym, subst, ap}
use Rattle.std.specs.Prelude.{IfErr}
use Rattle.std.proofs.lemmas.Result.{err_from_is_err_and}
use Rattle.direction_set.specs.DirectionTable.{DirectionTable}
use Rattle.level_table.specs.Problem.{problem_of}
use Rattle.level_table.specs.Tables.{HasSmallOpening}
use Rattle.game_files.specs.Loads.{Counts, counts_of}
use Rattle.solve_run.specs.Problems.{row_count, rows_in}
use Rattle.solve_run.specs.Replays.{IsReplayFault, IsScheduleFault}
use Rattle.solve_run.proofs.Second.{second_schedule_fault}
use Rattle.solve_run.proofs.replaying.replayed.Goals as goal

pub returns-in_err-moves-clause-why : goal.returns-in_err-moves-clause-why
returns-in_err-moves-clause-why g c =
    let now = g.S.Shelf.bytes c.read_game.new.shelf in
    let old = g.S.Shelf.bytes c.args.shelf.now in
    let before : Counts = counts_of g.S.Shelf.faults g.S.Shelf.overlong g.S.Shelf.loads c.args.shelf.now in
    let mid : Counts = counts_of g.S.Shelf.faults g.S.Shelf.overlong g.S.Shelf.loads c.read_game.new.shelf in
    let after : Counts = counts_of g.S.Shelf.faults g.S.Shelf.overlong g.S.Shelf.loads c.read_moves.new.shelf in
    let game = c.in_ok-game.game in
    let set = c.args.set.now in
    let fault = c.in_err-moves.field-0.0 in
    let dirs = c.directions-dirs.ensures.table in
    let rows : c.rows.result ≡ row_count game set = c.rows.ensures ∙ c.in_ok-start.ensures.rows ∙ ap (λ (d : DirectionTable). rows_in (problem_of game d set.grid)) dirs in
    let p = err_from_is_err_and c.from_residual-in_err-moves.result c.from_residual-in_err-moves.ensures.1 in
    let why : IsScheduleFault now c.args.schedule.now (row_count game set) mid after fault = subst (λ (n : ℕ). IsScheduleFault now c.args.schedule.now n mid after fault) rows c.in_err-moves.ensures.why in
    subst (λ r. IfErr r (IsReplayFault old c.args.file.now c.args.schedule.now set before after)) (sym (p.1 ∙ ap Err p.2))
    (inr (inr (
      game,
      c.in_ok-game.ensures.game,
      subst (λ (d : DirectionTable). HasSmallOpening (problem_of game d set.grid)) dirs c.in_ok-start.ensures.small,
      second_schedule_fault now old c.args.file.now c.args.schedule.now (row_count game set) before mid after fault c.in_ok-game.ensures.same_bytes c.in_ok-game.ensures.loads c.read_moves.ensures.loads why,
    )))
