use Rattle.std.proofs.Common.{◌≤◌, ◌^◌, ap, ◌∙◌, arith, lit<}
use Rattle.std.specs.Prelude.{◌-ℤ◌, ◌*ℤ◌}
use Rattle.std.specs.Int.{w32, w128}
use Rattle.std.specs.Int.RustNames.{FitsSigned}
use Rattle.std.proofs.lemmas.Int.{to_z-of_z}
use Rattle.lp_cert.specs.Program.{entry}
use Rattle.lp_cert.proofs.Steps.{fits_entry}
use Rattle.lp_core.specs.Planar.{line_of}
use Rattle.lp_core.proofs.Fits.{fits, at_place}
use Rattle.lp_core.proofs.Planes.{left_row, one_size, right_row_on}
use Rattle.lp_core.proofs.plane.row_on.Goals as goal

pub returns-clause-left : goal.returns-clause-left
returns-clause-left c =
    let p = c.args.pivot.now in
    let row = c.args.row in
    let a1 = at_place 1 c.place_of-first.result row.c c.place_of-first.ensures.inside c.requires.small.entries in
    let b1 = at_place 1 c.place_of-first.result p.line.c c.place_of-first.ensures.inside c.requires.own.entries in
    let a2 = at_place 1 c.place_of-second.result row.c c.place_of-second.ensures.inside c.requires.small.entries in
    let b2 = at_place 1 c.place_of-second.result p.line.c c.place_of-second.ensures.inside c.requires.own.entries in
    let f1 : FitsSigned w32 (entry c.args.row.c c.place_of-first.result) = fits_entry _ (omega (arith, a1)) in
    let f2 : FitsSigned w128 (entry c.args.pivot.now.line.c c.place_of-first.result) = fits _ _ b1 (lit< tt) in
    let f3 : FitsSigned w32 (entry c.args.row.c c.place_of-second.result) = fits_entry _ (omega (arith, a2)) in
    let f4 : FitsSigned w128 (entry c.args.pivot.now.line.c c.place_of-second.result) = fits _ _ b2 (lit< tt) in
    let f5 : FitsSigned w128 c.times_on-times.result = record { sfits = c.times_on-times.type_inv } in
    let f6 : FitsSigned w32 c.entry_on.result = record { sfits = c.entry_on.type_inv } in
    let f7 : FitsSigned w32 c.entry_on-2.result = record { sfits = c.entry_on-2.type_inv } in
    let f8 : FitsSigned w128 c.side_on.result = record { sfits = c.side_on.type_inv } in
    let f9 : FitsSigned w128 c.args.row.h = fits _ _ c.requires.small.side (lit< tt) in
    let f10 : FitsSigned w128 c.args.pivot.now.line.h = fits _ _ c.requires.own.side (lit< tt) in
    let t = c.times_on-times.result in
    let e1 = simp to_z-of_z at c.entry_on.ensures.value in
    let e2 = simp to_z-of_z at c.entry_on-2.ensures.value in
    let e3 = simp to_z-of_z at c.side_on.ensures.value in
    simp to_z-of_z (left_row p (line_of row) c.entry_on.result c.entry_on-2.result c.side_on.result t (one_size p (2 ^ 50) c.requires.own) c.times_on-times.ensures.value
    (e1 ∙ ap (λ i. entry row.c i -ℤ t *ℤ entry p.line.c i) c.place_of-first.ensures.value)
    (e2 ∙ ap (λ i. entry row.c i -ℤ t *ℤ entry p.line.c i) c.place_of-second.ensures.value)
    e3)

pub returns-clause-right : goal.returns-clause-right
returns-clause-right c =
    let f6 : FitsSigned w32 c.entry_on.result = record { sfits = c.entry_on.type_inv } in
    let f7 : FitsSigned w32 c.entry_on-2.result = record { sfits = c.entry_on-2.type_inv } in
    let f8 : FitsSigned w128 c.side_on.result = record { sfits = c.side_on.type_inv } in
    simp to_z-of_z (right_row_on c.entry_on.result c.entry_on-2.result c.side_on.result c.entry_on.ensures.small c.entry_on-2.ensures.small c.side_on.ensures.small)
