use Rattle.std.proofs.Common.{◌≤◌, ◌^◌, subst, arith, rules}
use Rattle.std.specs.Int.{w128}
use Rattle.std.specs.Int.RustNames.{FitsSigned, unsigned_abs}
use Rattle.std.proofs.lemmas.Int.{ints}
use Rattle.exact_algebra.proofs.Order.{abs_within}
use Rattle.lp_core.specs.declared.reduced.Line.{Line}
use Rattle.lp_core.proofs.Halves.{IsRead, read}
use Rattle.lp_core.proofs.planar.half_at.Goals as goal

pub known_at-requires-clause-narrow : goal.known_at-requires-clause-narrow
known_at-requires-clause-narrow c =
    let row = c.row-side.result in
    let r : IsRead c.args.rows.now c.args.l row = read c.args.rows.now c.args.l row c.row-side.ensures.program c.requires.dimension c.requires.within c.row-side.ensures.value in
    let f : FitsSigned w128 c.row-side.result.h = search rules in
    let side : unsigned_abs c.row-side.result.h ≤ 2 ^ 51 = abs_within c.row-side.result.h (2 ^ 51) (omega (arith, ints)) (omega (arith, ints)) in
    subst (λ (x : Line). unsigned_abs x.h ≤ 2 ^ 51) r.is side
