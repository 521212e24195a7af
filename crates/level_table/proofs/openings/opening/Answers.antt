-- the table repeats the opening levels
use Rattle.level_table.specs.Problem.{problem_of}
use Rattle.level_table.proofs.OpeningLemmas.{IsOpening-uniform}
use Rattle.level_table.proofs.openings.opening.Goals as goal

pub returns-in-Ok-uniform-clause-opened : goal.returns-in-Ok-uniform-clause-opened
returns-in-Ok-uniform-clause-opened c =
    let t = c.in-Ok-uniform.ensures in
    let o = c.in-Ok.ensures in
    IsOpening-uniform (problem_of c.args.game.now c.args.dirs.now c.args.grid) c.in-Ok-uniform.table c.in-Ok.levels c.states.result c.count.result
    t.whole t.states t.directions c.states.ensures c.count.ensures t.levels o.levels o.small
