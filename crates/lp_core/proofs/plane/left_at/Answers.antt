use Rattle.std.proofs.Common.{sym, subst}
use Rattle.lp_cert.proofs.Steps.{row_is}
use Rattle.lp_core.specs.Planar.{line_of}
use Rattle.lp_core.specs.Turned.{IsLeft}
use Rattle.lp_core.proofs.plane.left_at.Goals as goal

pub returns-clause-left : goal.returns-clause-left
returns-clause-left c =
    let y = line_of c.row_on.result in
    subst (λ x. IsLeft c.args.pivot.now (line_of x) (line_of c.row_on.result)) (sym (row_is c.args.rows.now c.args.l c.row.result c.row.ensures.value)) c.row_on.ensures.left
