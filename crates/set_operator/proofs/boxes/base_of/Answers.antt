use Rattle.std.proofs.Common.{◌≡◌, ◌^◌, ◌≤◌, ◌∙◌, ap, arith, lit<, pos, to_z, of_z}
use Rattle.std.specs.Int.{w128}
use Rattle.std.proofs.lemmas.Int.{fits_signed_from_abs, to_z-of_z}
use Rattle.level_table.proofs.Sizes.{base_small}
use Rattle.exact_algebra.proofs.Fits.{fits64}
use Rattle.set_operator.proofs.Scales.{kept}
use Rattle.set_operator.proofs.boxes.base_of.Goals as goal

pub overflow_cast-result : goal.overflow_cast-result
overflow_cast-result c =
    let small : c.args.p.now.game.base ≤ 2 ^ 30 = base_small c.args.p.now.game c.rules.ensures.game in
    let is : c.base.result ≡ pos c.args.p.now.game.base = c.base.ensures ∙ ap (λ g. pos g.base) c.game.ensures.game in
    let wide : to_z w128 (of_z w128 c.base.result) ≡ pos c.args.p.now.game.base = rw is (to_z-of_z w128 (pos c.args.p.now.game.base) (fits_signed_from_abs w128 (pos c.args.p.now.game.base) (omega (arith, small)))) in
    rw wide (fits64 (pos c.args.p.now.game.base) (2 ^ 30) small (lit< tt))

pub returns-clause-value : goal.returns-clause-value
returns-clause-value c =
    let small : c.args.p.now.game.base ≤ 2 ^ 30 = base_small c.args.p.now.game c.rules.ensures.game in
    let is : c.base.result ≡ pos c.args.p.now.game.base = c.base.ensures ∙ ap (λ g. pos g.base) c.game.ensures.game in
    let wide : to_z w128 (of_z w128 c.base.result) ≡ pos c.args.p.now.game.base = rw is (to_z-of_z w128 (pos c.args.p.now.game.base) (fits_signed_from_abs w128 (pos c.args.p.now.game.base) (omega (arith, small)))) in
    rw wide (kept (pos c.args.p.now.game.base) (2 ^ 30) small (lit< tt))

pub returns-clause-small : goal.returns-clause-small
returns-clause-small c = base_small c.args.p.now.game c.rules.ensures.game
