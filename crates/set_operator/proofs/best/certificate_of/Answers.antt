use Rattle.level_table.specs.Levels.{levels_in}
use Rattle.set_operator.proofs.Items.{certificate_from}
use Rattle.set_operator.proofs.Points.{admits_point}
use Rattle.set_operator.proofs.best.certificate_of.Goals as goal

pub unreachable-requires : goal.unreachable-requires
unreachable-requires c =
    c.requires.nothing (record { numerators = c.in-Best.point.num; denominator = c.in-Best.point.den })
    (admits_point c.args.p.now (levels_in c.args.levels.now) c.args.found.now c.fill_rows.new.rows c.in-Best.point.num c.in-Best.point.den
    c.fill_rows.ensures.problem c.requires.sides c.fill_rows.ensures.rows c.in-Best.ensures.best.meets)

pub returns : goal.returns
returns c =
    certificate_from c.args.p.now (levels_in c.args.levels.now) c.args.found.now c.fill_rows.new.rows c.in-Infeasible.farkas.items c.items_of.result
    c.fill_rows.ensures.problem c.fill_rows.ensures.rows c.in-Infeasible.ensures.farkas.proves c.items_of.ensures
