use Rattle.std.specs.Prelude.{pos, ◌<ℤ◌, ◌≤ℤ◌}
use Rattle.std.proofs.Common.{◌^◌, arith}
use Rattle.std.specs.Int.{w128}
use Rattle.std.specs.Int.RustNames.{FitsSigned}
use Rattle.std.proofs.lemmas.Int.{ints, to_z-of_z}
use Rattle.selfgen_check.proofs.Capped.{part_over, part_under}
use Rattle.selfgen_check.proofs.measures.with_part.Goals as goal

pub returns-then-multiple-gt-MOST_COMMON-clause-common : goal.returns-then-multiple-gt-MOST_COMMON-clause-common
returns-then-multiple-gt-MOST_COMMON-clause-common c =
    let z = c.multiple_of-multiple.result in
    let fits : FitsSigned w128 z = record { sfits = c.multiple_of-multiple.type_inv } in
    let test = simp to_z-of_z at c.if-multiple-gt-MOST_COMMON.true in
    let above : pos (2 ^ 44) <ℤ z = omega (arith, ints, test) in
    rw (to_z-of_z w128 z fits) (part_over c.args.common c.args.part z c.multiple_of-multiple.ensures.value above)

pub returns-clause-common : goal.returns-clause-common
returns-clause-common c =
    let z = c.multiple_of-multiple.result in
    let fits : FitsSigned w128 z = record { sfits = c.multiple_of-multiple.type_inv } in
    let test = simp to_z-of_z at c.if-multiple-gt-MOST_COMMON.false in
    let below : z ≤ℤ pos (2 ^ 44) = omega (arith, ints, test) in
    rw (to_z-of_z w128 z fits) (part_under c.args.common c.args.part z c.multiple_of-multiple.ensures.value below)
