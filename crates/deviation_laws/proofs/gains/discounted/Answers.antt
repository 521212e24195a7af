use Rattle.std.proofs.Common.{ap, ◌∙◌, sym, subst, Err}
use Rattle.std.specs.Prelude.{◌*ℤ◌}
use Rattle.std.proofs.lemmas.Result.{err_from_is_err_and}
use Rattle.pay_frac.specs.Ratio.{Ratio, Equals, IsLowest, IsSmall}
use Rattle.deviation_laws.specs.Fractions.{plus, product}
use Rattle.deviation_laws.specs.Gains.{discount}
use Rattle.deviation_laws.specs.Lists.{held, formed_then}
use Rattle.deviation_laws.proofs.Outcomes.{later_beyond, value_kept}
use Rattle.deviation_laws.proofs.Values.{err_answers, kept_as}
use Rattle.deviation_laws.proofs.gains.discounted.Goals as goal

pub returns-in_err-later : goal.returns-in_err-later
returns-in_err-later c =
    let p = err_from_is_err_and c.from_residual.result c.from_residual.ensures.1 in
    err_answers (formed_then c.args.set.now.game c.args.player c.args.depth (held c.args.now) (held c.args.average)) (plus (held c.args.now) (product (discount c.args.set.now.game c.args.player) (held c.args.average))) c.in_err-later.field-0.0 c.from_residual.result (p.1 ∙ ap Err p.2)
    (later_beyond c.args.set.now.game c.args.player c.args.depth c.in_err-later.field-0.0.depth c.args.now c.args.average c.discount.result c.mul.result
    c.discount.ensures.some c.requires.average_lowest c.discount.ensures.lowest c.discount.ensures.equal c.mul.ensures.lowest c.mul.ensures.equal c.in_err-later.ensures.err)

pub returns : goal.returns
returns c =
    let later = c.in_ok-later.ensures.ok in
    value_kept c.args.set.now.game c.args.player c.args.depth c.args.now c.args.average c.discount.result c.in_ok-later.later c.add.result c.kept-2.result
    c.discount.ensures.some c.requires.now_lowest c.requires.now_small c.requires.average_lowest c.discount.ensures.lowest c.discount.ensures.equal
    (subst IsLowest (sym later.0) c.mul.ensures.lowest)
    (subst (λ (x : Ratio). Equals x (c.discount.result.num *ℤ c.args.average.num) (c.discount.result.den *ℤ c.args.average.den)) (sym later.0) c.mul.ensures.equal)
    (subst IsSmall (sym later.0) later.1) c.add.ensures.lowest c.add.ensures.equal (kept_as c.add.result c.args.depth c.kept-2.result c.kept-2.ensures.ok c.kept-2.ensures.err)
