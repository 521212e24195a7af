use Rattle.std.proofs.Common.{arith}
use Rattle.std.specs.Int.{w128}
use Rattle.std.specs.Int.RustNames.{FitsSigned, unsigned_abs}
use Rattle.std.proofs.lemmas.Int.{ints, to_z-of_z}
use Rattle.dyn_text.proofs.Loops.{multiple_within}
use Rattle.dyn_text.proofs.measures.with_denominator.Goals as goal

pub returns-clause-multiple : goal.returns-clause-multiple
returns-clause-multiple c =
    let r = c.multiple_of-multiple.result in
    let fits : FitsSigned w128 r = record { sfits = c.multiple_of-multiple.type_inv } in
    let m = c.multiple_of-multiple.ensures in
    rw (to_z-of_z w128 r fits) (multiple_within c.args.unit (unsigned_abs c.args.payoff.now.den) m.0 r m.1 m.2 (omega (arith, ints)))
