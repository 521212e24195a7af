use Rattle.std.proofs.Common.{arith, ap}
use Rattle.game_model.specs.Game.{counts, profile_count}
use Rattle.level_table.specs.Levels.{levels_in}
use Rattle.set_operator.proofs.SearchLemmas.{largest_at}
use Rattle.set_operator.proofs.row.best_in_row.Goals as goal

pub returns-clause-largest : goal.returns-clause-largest
returns-clause-largest c =
    largest_at c.args.p.now (levels_in c.args.levels.now) c.args.row.state c.args.row.dir c.loop-a.a _ c.loop-a.best
    (omega (arith, ap (λ g. profile_count (counts g c.args.row.state)) c.game.ensures.game, c.profiles-a-end.ensures, c.loop-a.auto.a-end, c.loop-a-test.false)) c.loop-a.invariant.largest
