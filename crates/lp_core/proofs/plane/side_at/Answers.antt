use Rattle.std.proofs.Common.{ap, sym, rules}
use Rattle.std.specs.Int.{w128}
use Rattle.std.specs.Int.RustNames.{FitsSigned}
use Rattle.std.proofs.lemmas.Int.{to_z-of_z}
use Rattle.lp_cert.specs.declared.rows.Row.{Row}
use Rattle.lp_cert.proofs.Steps.{right_row, row_is}
use Rattle.lp_core.proofs.plane.side_at.Goals as goal

pub returns-clause-value : goal.returns-clause-value
returns-clause-value c =
    let f : FitsSigned w128 c.row.result.h = search rules in
    simp to_z-of_z (ap (λ (x : Row). x.h) (sym (row_is c.args.rows.now c.args.l c.row.result c.row.ensures.value)))

pub returns-clause-small : goal.returns-clause-small
returns-clause-small c =
    let f : FitsSigned w128 c.row.result.h = search rules in
    simp to_z-of_z (right_row c.args.rows.now c.args.l c.row.result c.row.ensures.program c.requires c.row.ensures.value).side
