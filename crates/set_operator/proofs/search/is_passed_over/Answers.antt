use Rattle.std.proofs.Common.{◌+◌, sym, subst}
use Rattle.level_table.specs.Levels.{levels_in}
use Rattle.set_operator.specs.Search.{IsLargestSoFar}
use Rattle.set_operator.proofs.SearchLemmas.{box_there, not_both, so_far_none_above, so_far_skip, unknown_admits_nothing}
use Rattle.set_operator.proofs.search.is_passed_over.Goals as goal

pub returns-in-None : goal.returns-in-None
returns-in-None c = λ _.
    so_far_skip c.args.p.now (levels_in c.args.levels.now) c.args.row.state c.args.row.dir c.args.a c.args.best.now c.requires.before
    (unknown_admits_nothing c.args.p.now (levels_in c.args.levels.now) c.args.row.state c.args.a c.args.program.now c.in-None.is c.requires.at)

pub returns-in-Some-best : goal.returns-in-Some-best
returns-in-Some-best c = λ over.
    let p = c.args.p.now in
    let t = levels_in c.args.levels.now in
    let s = c.args.row.state in
    let k = c.args.row.dir in
    let b = box_there p t s c.args.a c.args.program.now c.in-Some.found c.in-Some.is c.requires.at in
    subst (λ o. IsLargestSoFar p t s k (c.args.a + 1) o) (sym c.in-Some-best.is)
    (so_far_none_above p t s k c.args.a c.in-Some.found c.in-Some-best.before (subst (λ o. IsLargestSoFar p t s k c.args.a o) c.in-Some-best.is c.requires.before) b.0 b.1
    (c.can_win.ensures (λ yes. not_both c.can_win.result yes over)))
