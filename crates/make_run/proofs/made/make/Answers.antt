use Rattle.std.proofs.Common.{sym, ap, subst, ◌∙◌, refl}
use Rattle.direction_set.specs.DirectionTable.{DirectionTable}
use Rattle.game_model.specs.Game.{DynamicGame, states}
use Rattle.level_table.specs.Levels.{levels_in, opening_table}
use Rattle.level_table.specs.Problem.{Problem, problem_of}
use Rattle.level_table.specs.Supported.{IsGreatest}
use Rattle.case_maker.specs.Generated.{generated_game}
use Rattle.case_maker.proofs.Limits.{state_count}
use Rattle.make_run.specs.Opening.{IsSmallGame}
use Rattle.make_run.specs.Summary.{IsSummary}
use Rattle.make_run.proofs.made.make.Goals as goal

pub greatest-requires-clause-game : goal.greatest-requires-clause-game
greatest-requires-clause-game g c =
    let game = generated_game c.args.seed c.args.states in
    let small : IsSmallGame game = record {
      game = c.in_ok-game.ensures.is_game;
      players = refl;
      base = refl;
      payoffs = λ s a i hs ha hi. c.profiles_are_drawn.ensures.few c.args.seed c.args.states s a i hs ha hi;
    } in
    λ κs outlives. subst IsSmallGame (sym c.in_ok-game.ensures.game) small

pub returns : goal.returns
returns g c =
    let seed = c.args.seed in
    let count = c.args.states in
    let game = c.in_ok-game.ensures.game in
    let dirs = c.directions-dirs.ensures in
    let known = ap (λ (x : DynamicGame). problem_of x c.directions-dirs.result 4) game ∙ ap (λ (d : DirectionTable). problem_of (generated_game seed count) d 4) dirs in
    record {
      seed_shown = c.summary.ensures.seed;
      states_shown = c.summary.ensures.states ∙ ap (λ (p : Problem). states p.game) (c.new-p.ensures.problem ∙ known) ∙ state_count seed count;
      table = levels_in c.in_ok-levels.levels;
      greatest = subst (λ (p : Problem). IsGreatest p (opening_table p) (levels_in c.in_ok-levels.levels)) known c.in_ok-levels.ensures.greatest;
      summary = subst (λ (p : Problem). IsSummary p (levels_in c.in_ok-levels.levels) c.summary.result) (c.new-p.ensures.problem ∙ known) c.summary.ensures.numbers;
    }
