use Rattle.std.specs.Prelude.{pos, ◌<ℤ◌, ◌≤ℤ◌}
use Rattle.std.proofs.Common.{◌^◌, arith}
use Rattle.std.specs.Int.{w128}
use Rattle.std.specs.Int.RustNames.{FitsSigned}
use Rattle.std.proofs.lemmas.Int.{ints, to_z-of_z}
use mir.Syntax.{w64}
use Rattle.selfgen_check.proofs.Capped.{scaled_over, scaled_under}
use Rattle.selfgen_check.proofs.measures.scaled.Goals as goal

pub returns-then-size-gt-MOST_POINT : goal.returns-then-size-gt-MOST_POINT
returns-then-size-gt-MOST_POINT c =
    let z = c.size_of-size.result in
    let fits : FitsSigned w128 z = record { sfits = c.size_of-size.type_inv } in
    let test = simp to_z-of_z at c.if-size-gt-MOST_POINT.true in
    let above : pos (2 ^ 30) <ℤ z = omega (arith, ints, test) in
    rw (to_z-of_z w128 z fits) (scaled_over c.args.common c.args.part z c.size_of-size.ensures.value above)

pub returns : goal.returns
returns c =
    let z = c.size_of-size.result in
    let v = c.with_sign.result in
    let fits : FitsSigned w128 z = record { sfits = c.size_of-size.type_inv } in
    let fits_v : FitsSigned w64 v = record { sfits = c.with_sign.type_inv } in
    let test = simp to_z-of_z at c.if-size-gt-MOST_POINT.false in
    let below : z ≤ℤ pos (2 ^ 30) = omega (arith, ints, test) in
    let signed = simp to_z-of_z at c.with_sign.ensures in
    rw (to_z-of_z w64 v fits_v) (scaled_under c.args.common c.args.part z v c.size_of-size.ensures.value below signed)
