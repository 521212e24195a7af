use Rattle.std.proofs.Common.{◌≡◌, ◌^◌, ◌<◌, arith, get_or, pos}
use Rattle.set_operator.proofs.Scales.{unit_is}
use Rattle.set_operator.proofs.boxes.unit_of.Goals as goal

pub returns-clause-value : goal.returns-clause-value
returns-clause-value c =
    let own : c.from.result ≡ pos (get_or c.args.p.now.game.discounts c.args.i 0) = cc in
    let below : get_or c.args.p.now.game.discounts c.args.i 0 < c.args.p.now.game.q = c.game.ensures.is_problem.game.discounts_below c.args.i c.requires.player in
    rw (c.base_of.ensures.value, own, c.fineness_of.ensures.value)
    (unit_is c.args.p.now.game.base (get_or c.args.p.now.game.discounts c.args.i 0) (2 ^ c.args.p.now.grid) c.base_of.ensures.small
    (omega (arith, below, c.game.ensures.is_problem.game.q_small)) c.fineness_of.ensures.small)
