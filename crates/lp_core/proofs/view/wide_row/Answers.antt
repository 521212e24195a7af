use Rattle.std.proofs.Common.{List, ap, sym, ◌∙◌, rules}
use Rattle.std.specs.Prelude.{ℤ, pos, []}
use Rattle.std.specs.Int.{w128}
use Rattle.std.specs.Int.RustNames.{FitsSigned}
use Rattle.std.proofs.lemmas.Int.{to_z-of_z}
use Rattle.lp_cert.proofs.Steps.{got}
use Rattle.lp_core.specs.declared.reduced.Line.{Line}
use Rattle.lp_core.specs.Planar.{line_of}
use Rattle.lp_core.proofs.Halves.{whole_line}
use Rattle.lp_core.proofs.view.wide_row.Goals as goal

pub returns : goal.returns
returns c =
    let p = c.args.rows.now in
    let row = c.row-row.result in
    let f : FitsSigned w128 c.row-row.result.h = search rules in
    let same = got p.rows c.args.l row c.row-row.ensures.value (record { c = []; h = pos 0 }) in
    simp to_z-of_z (ap (λ (xs : List ℤ). let z : Line = record { c = xs; h = row.h } in z) c.widened.ensures ∙ ap line_of (sym same) ∙ sym (whole_line p c.args.l c.requires))
