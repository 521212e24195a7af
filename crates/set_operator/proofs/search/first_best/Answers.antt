use Rattle.std.proofs.Common.{arith}
use Rattle.level_table.specs.Levels.{levels_in}
use Rattle.set_operator.proofs.SearchLemmas.{largest_at}
use Rattle.set_operator.proofs.search.first_best.Goals as goal

pub returns-clause-largest : goal.returns-clause-largest
returns-clause-largest c =
    largest_at c.args.p.now (levels_in c.args.levels.now) c.args.row.state c.args.row.dir c.loop-a.a _ c.loop-a.best (omega (arith, c.loop-a.auto.a-end, c.loop-a-test.false)) c.loop-a.invariant.largest
