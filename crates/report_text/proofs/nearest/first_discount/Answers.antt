use Rattle.std.proofs.Common.{sym, subst, arith, rules, SFits, ℤ}
use Rattle.std.specs.Int.{w128, IsGcd}
use Rattle.std.specs.Int.RustNames.{unsigned_abs}
use Rattle.std.proofs.lemmas.Int.{ints, to_z-of_z}
use Rattle.report_text.proofs.Multiples.{discount_is, half_is}
use Rattle.report_text.proofs.nearest.first_discount.Goals as goal

pub returns-then-q-le1024-clause-keeps : goal.returns-then-q-le1024-clause-keeps
returns-then-q-le1024-clause-keeps c =
    let fp : SFits w128 c.num-p.result = search rules in
    let fq : SFits w128 c.den-q.result = search rules in
    let low = c.num-p.ensures.lowest.coprime in
    let g : IsGcd (unsigned_abs c.num-p.result) (unsigned_abs c.den-q.result) 1 =
    subst (λ (z : ℤ). IsGcd (unsigned_abs z) (unsigned_abs c.den-q.result) 1) (sym c.num-p.ensures.value) (subst (λ (z : ℤ). IsGcd (unsigned_abs c.args.fraction.num) (unsigned_abs z) 1) (sym c.den-q.ensures.value) low) in
    rw (to_z-of_z w128 c.num-p.result fp, to_z-of_z w128 c.den-q.result fq) (discount_is c.num-p.result c.den-q.result (omega (arith, ints, c.if-p-gt0.true)) (omega (arith, ints, c.if-p-q.true)) g)

pub returns-else-p-gt0-clause-keeps : goal.returns-else-p-gt0-clause-keeps
returns-else-p-gt0-clause-keeps c = half_is
