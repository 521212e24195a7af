use Rattle.std.proofs.Common.{◌≤◌, ◌*◌, ◌^◌, arith, lit≤, rules, subst, sym}
use Rattle.std.specs.Int.{w128}
use Rattle.std.specs.Int.RustNames.{FitsSigned, unsigned_abs}
use Rattle.std.proofs.lemmas.Int.{ints, to_z-of_z}
use Rattle.lp_core.specs.declared.reduced.Line.{Line}
use Rattle.lp_core.proofs.wide.box_ends.Goals as goal

pub invariant_of-result : goal.invariant_of-result
invariant_of-result c =
    let f1 : FitsSigned w128 c.line.result.h = search rules in
    let inside = c.requires.within.within in
    let s : unsigned_abs c.line.result.h ≤ 2 ^ 65 = subst (λ (x : Line). unsigned_abs x.h ≤ 2 ^ 65) (sym c.line.ensures) (c.requires.small (2 * c.args.k) (omega (arith, inside))).side in
    simp to_z-of_z (record { positive = omega (arith, ints); small_entry = lit≤ tt; small_side = omega (arith, s) })
