use Rattle.std.proofs.Common.{arith}
use Rattle.level_table.specs.Levels.{levels_in}
use Rattle.set_operator.proofs.SearchLemmas.{leaders, no_leader}
use Rattle.set_operator.proofs.search.leader.Goals as goal

pub returns-clause-none : goal.returns-clause-none
returns-clause-none c =
    no_leader c.args.p.now (levels_in c.args.levels.now) c.args.row.state c.args.row.dir c.loop-a.a c.loop-a.best (omega (arith, c.loop-a.auto.a-end, c.loop-a-test.false, c.requires.one_each)) c.loop-a.invariant

pub returns-clause-some : goal.returns-clause-some
returns-clause-some c =
    leaders c.args.p.now (levels_in c.args.levels.now) c.args.row.state c.args.row.dir c.loop-a.a c.args.level c.loop-a.best (omega (arith, c.loop-a.auto.a-end, c.loop-a-test.false, c.requires.one_each)) c.loop-a.invariant
