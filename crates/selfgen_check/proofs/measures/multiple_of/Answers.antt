use Rattle.std.specs.Prelude.{pos, ◌<ℤ◌}
use Rattle.std.proofs.Common.{arith}
use Rattle.std.specs.Int.{w128}
use Rattle.std.specs.Int.RustNames.{FitsSigned}
use Rattle.std.proofs.lemmas.Int.{ints, to_z-of_z}
use Rattle.selfgen_check.proofs.Capped.{multiple_told, multiple_positive}
use Rattle.selfgen_check.proofs.measures.multiple_of.Goals as goal

pub returns-clause-value : goal.returns-clause-value
returns-clause-value c =
    let fits_a : FitsSigned w128 c.from.result = record { sfits = c.from.type_inv } in
    let fits_b : FitsSigned w128 c.den.result = record { sfits = c.den.type_inv } in
    let fits_r : FitsSigned w128 c.capped_multiple.result = record { sfits = c.capped_multiple.type_inv } in
    let told = simp to_z-of_z at c.capped_multiple.ensures in
    rw (to_z-of_z w128 c.capped_multiple.result fits_r, ← c.den.ensures.value) (multiple_told c.args.common c.from.result c.den.result c.capped_multiple.result c.requires c.from.ensures told)

pub returns-clause-positive : goal.returns-clause-positive
returns-clause-positive c =
    let fits_a : FitsSigned w128 c.from.result = record { sfits = c.from.type_inv } in
    let fits_b : FitsSigned w128 c.den.result = record { sfits = c.den.type_inv } in
    let fits_r : FitsSigned w128 c.capped_multiple.result = record { sfits = c.capped_multiple.type_inv } in
    let told = simp to_z-of_z at c.capped_multiple.ensures in
    let above : pos 0 <ℤ c.den.result = omega (arith, ints, c.den.ensures.lowest.positive) in
    rw (to_z-of_z w128 c.capped_multiple.result fits_r) (multiple_positive c.args.common c.from.result c.den.result c.capped_multiple.result c.requires above c.from.ensures told)
