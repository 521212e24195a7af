use Rattle.std.proofs.Common.{ap, ◌∙◌, sym, subst, arith, unsigned_abs, Err, ◌<◌}
use Rattle.std.specs.Int.{w128}
use Rattle.std.specs.Prelude.{pos, ◌*ℤ◌}
use Rattle.std.proofs.lemmas.Int.{ints, to_z-of_z}
use Rattle.std.proofs.lemmas.Result.{err_from_is_err_and}
use Rattle.pay_frac.specs.Ratio.{Ratio, Equals, IsLowest, IsSmall}
use Rattle.deviation_laws.specs.Fractions.{plus}
use Rattle.deviation_laws.specs.Gains.{weighed}
use Rattle.deviation_laws.specs.Lists.{held, formed_at}
use Rattle.deviation_laws.proofs.Outcomes.{share_beyond, part_beyond, sum_kept, of_naturals}
use Rattle.deviation_laws.proofs.Values.{err_answers, kept_as}
use Rattle.deviation_laws.proofs.gains.with_outcome.Goals as goal

pub returns-in_err-share : goal.returns-in_err-share
returns-in_err-share c =
    let p = err_from_is_err_and c.from_residual.result c.from_residual.ensures.1 in
    let some : 0 < unsigned_abs c.args.total = omega (arith, ints, c.requires.positive) in
    let e : Equals c.of.result c.args.weight c.args.total = (rw (to_z-of_z w128 c.args.weight c.ranges.weight, to_z-of_z w128 c.args.total c.ranges.total) at c.of.ensures.equal) in
    let equal : Equals c.of.result (pos (unsigned_abs c.args.weight)) (pos (unsigned_abs c.args.total)) = of_naturals c.of.result c.args.weight c.args.total c.requires.not_negative c.requires.positive e in
    err_answers (formed_at c.args.depth (unsigned_abs c.args.weight) (unsigned_abs c.args.total) (held c.args.sum) (held c.args.worth)) (plus (held c.args.sum) (weighed (unsigned_abs c.args.weight) (unsigned_abs c.args.total) (held c.args.worth))) c.in_err-share.field-0.0 c.from_residual.result (p.1 ∙ ap Err p.2)
    (share_beyond c.args.depth c.in_err-share.field-0.0.depth (unsigned_abs c.args.weight) (unsigned_abs c.args.total) c.args.sum c.args.worth c.of.result
    some c.of.ensures.lowest equal c.in_err-share.ensures.err)

pub returns-in_err-part : goal.returns-in_err-part
returns-in_err-part c =
    let p = err_from_is_err_and c.from_residual-in_err-part.result c.from_residual-in_err-part.ensures.1 in
    let some : 0 < unsigned_abs c.args.total = omega (arith, ints, c.requires.positive) in
    let e : Equals c.of.result c.args.weight c.args.total = (rw (to_z-of_z w128 c.args.weight c.ranges.weight, to_z-of_z w128 c.args.total c.ranges.total) at c.of.ensures.equal) in
    let equal : Equals c.of.result (pos (unsigned_abs c.args.weight)) (pos (unsigned_abs c.args.total)) = of_naturals c.of.result c.args.weight c.args.total c.requires.not_negative c.requires.positive e in
    let share = c.in_ok-share.ensures.ok in
    let low = subst IsLowest (sym share.0) c.of.ensures.lowest in
    let small = subst IsSmall (sym share.0) share.1 in
    let equal2 = subst (λ (x : Ratio). Equals x (pos (unsigned_abs c.args.weight)) (pos (unsigned_abs c.args.total))) (sym share.0) equal in
    err_answers (formed_at c.args.depth (unsigned_abs c.args.weight) (unsigned_abs c.args.total) (held c.args.sum) (held c.args.worth)) (plus (held c.args.sum) (weighed (unsigned_abs c.args.weight) (unsigned_abs c.args.total) (held c.args.worth))) c.in_err-part.field-0.0 c.from_residual-in_err-part.result (p.1 ∙ ap Err p.2)
    (part_beyond c.args.depth c.in_err-part.field-0.0.depth (unsigned_abs c.args.weight) (unsigned_abs c.args.total) c.args.sum c.args.worth c.in_ok-share.share c.mul.result
    some c.requires.worth_lowest low equal2 small c.mul.ensures.lowest c.mul.ensures.equal c.in_err-part.ensures.err)

pub returns : goal.returns
returns c =
    let some : 0 < unsigned_abs c.args.total = omega (arith, ints, c.requires.positive) in
    let e : Equals c.of.result c.args.weight c.args.total = (rw (to_z-of_z w128 c.args.weight c.ranges.weight, to_z-of_z w128 c.args.total c.ranges.total) at c.of.ensures.equal) in
    let equal : Equals c.of.result (pos (unsigned_abs c.args.weight)) (pos (unsigned_abs c.args.total)) = of_naturals c.of.result c.args.weight c.args.total c.requires.not_negative c.requires.positive e in
    let share = c.in_ok-share.ensures.ok in
    let low = subst IsLowest (sym share.0) c.of.ensures.lowest in
    let small = subst IsSmall (sym share.0) share.1 in
    let equal2 = subst (λ (x : Ratio). Equals x (pos (unsigned_abs c.args.weight)) (pos (unsigned_abs c.args.total))) (sym share.0) equal in
    let part = c.in_ok-part.ensures.ok in
    sum_kept c.args.depth (unsigned_abs c.args.weight) (unsigned_abs c.args.total) c.args.sum c.args.worth c.in_ok-share.share c.in_ok-part.part c.add.result c.kept-3.result
    some c.requires.sum_lowest c.requires.worth_lowest low equal2 small (subst IsLowest (sym part.0) c.mul.ensures.lowest)
    (subst (λ (x : Ratio). Equals x (c.in_ok-share.share.num *ℤ c.args.worth.num) (c.in_ok-share.share.den *ℤ c.args.worth.den)) (sym part.0) c.mul.ensures.equal)
    (subst IsSmall (sym part.0) part.1) c.add.ensures.lowest c.add.ensures.equal (kept_as c.add.result c.args.depth c.kept-3.result c.kept-3.ensures.ok c.kept-3.ensures.err)
