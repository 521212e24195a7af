use Rattle.std.proofs.Common.{◌≡◌, ◌+◌, ◌*◌, ◌^◌, ap, ◌∙◌, lit<}
use Rattle.std.specs.Int.{w128}
use Rattle.std.specs.Int.RustNames.{FitsSigned}
use Rattle.std.proofs.lemmas.Int.{to_z-of_z}
use Rattle.lp_cert.specs.Program.{row_at}
use Rattle.lp_core.proofs.Fits.{fits}
use Rattle.lp_core.proofs.Planes.{box_left}
use Rattle.lp_core.proofs.plane.box_on.Goals as goal

pub returns-clause-each : goal.returns-clause-each
returns-clause-each c =
    let P = c.args.rows.now in
    let p = c.args.pivot.now in
    let f1 : FitsSigned w128 c.side_at-first_upper.result = fits _ _ c.side_at-first_upper.ensures.small (lit< tt) in
    let f2 : FitsSigned w128 c.side_at-first_lower.result = fits _ _ c.side_at-first_lower.ensures.small (lit< tt) in
    let f3 : FitsSigned w128 c.side_at-second_upper.result = fits _ _ c.side_at-second_upper.ensures.small (lit< tt) in
    let f4 : FitsSigned w128 c.side_at-second_lower.result = fits _ _ c.side_at-second_lower.ensures.small (lit< tt) in
    let is = simp to_z-of_z at c.boxed.ensures.rows in
    box_left P p c.boxed.result c.side_at-first_upper.result c.side_at-second_upper.result c.side_at-first_lower.result c.side_at-second_lower.result c.requires.program c.requires.dimension is
    (c.side_at-first_upper.ensures.value ∙ ap (λ n. (row_at P (2 * n)).h) c.place_of.ensures.value)
    (c.side_at-second_upper.ensures.value ∙ ap (λ n. (row_at P (2 * n)).h) c.place_of-2.ensures.value)
    (c.side_at-first_lower.ensures.value ∙ ap (λ n. (row_at P (2 * n + 1)).h) c.place_of.ensures.value)
    (c.side_at-second_lower.ensures.value ∙ ap (λ n. (row_at P (2 * n + 1)).h) c.place_of-2.ensures.value)
