use Rattle.level_table.specs.Levels.{levels_in}
use Rattle.set_operator.proofs.Points.{admits_point, meets_rows, vector_of}
use Rattle.set_operator.proofs.best.admits.Goals as goal

pub returns-in-Best-clause-some : goal.returns-in-Best-clause-some
returns-in-Best-clause-some c = λ yes. (
  record { numerators = c.in-Best.point.num; denominator = c.in-Best.point.den },
  admits_point c.args.p.now (levels_in c.args.levels.now) c.args.found.now c.fill_rows.new.rows c.in-Best.point.num c.in-Best.point.den
      c.fill_rows.ensures.problem c.requires.sides c.fill_rows.ensures.rows c.in-Best.ensures.best.meets,
)

pub returns-in_default-clause-none : goal.returns-in_default-clause-none
returns-in_default-clause-none c = λ z adm. absurd (
    c.in_default.ensures.infeasible.0 tt (vector_of z)
    (meets_rows c.args.p.now (levels_in c.args.levels.now) c.args.found.now c.fill_rows.new.rows z c.fill_rows.ensures.problem c.requires.sides c.fill_rows.ensures.rows adm))
