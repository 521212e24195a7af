use Rattle.std.specs.Int.{w32}
use Rattle.std.specs.Int.RustNames.{FitsSigned}
use Rattle.std.proofs.lemmas.Int.{to_z-of_z}
use Rattle.set_operator.proofs.Programs.{objective_from}
use Rattle.set_operator.proofs.program.objective_of.Goals as goal

pub returns : goal.returns
returns c =
    let f1 : FitsSigned w32 c.weight.result = record { sfits = c.weight.type_inv } in
    let f2 : FitsSigned w32 c.weight-2.result = record { sfits = c.weight-2.type_inv } in
    let f3 : FitsSigned w32 c.weight-3.result = record { sfits = c.weight-3.type_inv } in
    simp to_z-of_z (objective_from c.args.p.now c.args.dir c.weight.result c.weight-2.result c.weight-3.result c.rules.ensures
    (record { value = c.weight.ensures.value; unused = c.weight.ensures.unused; small = c.weight.ensures.small })
    (record { value = c.weight-2.ensures.value; unused = c.weight-2.ensures.unused; small = c.weight-2.ensures.small })
    (record { value = c.weight-3.ensures.value; unused = c.weight-3.ensures.unused; small = c.weight-3.ensures.small }))
