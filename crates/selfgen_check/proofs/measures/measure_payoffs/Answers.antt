use Rattle.std.proofs.Common.{[], Err, ap, refl, ◌∙◌, arith, get_or}
use Rattle.std.proofs.lemmas.Result.{err_from_is_err_and}
use Rattle.selfgen_check.specs.Measures.{with_payoffs}
use Rattle.selfgen_check.specs.TextFaults.{folded}
use Rattle.selfgen_check.proofs.Measuring.{folded_more, folded_fails, folded_end, shows_err}
use Rattle.selfgen_check.proofs.measures.measure_payoffs.Goals as goal

pub loop-s-preserved : goal.loop-s-preserved
loop-s-preserved c =
    let us = c.args.game.now.payoffs in
    let k = c.args.scale in
    let listed = c.players-players.ensures.is_game.payoffs_listed in
    folded_more with_payoffs (folded with_payoffs k us) k k us c.loop-s.s [] (get_or us c.loop-s.s []) (omega arith) refl c.loop-s.invariant c.in_ok-payoffs_in.ensures

pub returns-in_err-payoffs_in : goal.returns-in_err-payoffs_in
returns-in_err-payoffs_in c =
    let p = err_from_is_err_and c.from_residual.result c.from_residual.ensures.1 in
    let fault = c.in_err-payoffs_in.field-0.0 in
    let us = c.args.game.now.payoffs in
    let k = c.args.scale in
    let listed = c.players-players.ensures.is_game.payoffs_listed in
    shows_err (λ x. k) c.from_residual.result fault (folded with_payoffs k us) (p.1 ∙ ap Err p.2)
    (folded_fails with_payoffs (folded with_payoffs k us) k us c.loop-s.s [] (get_or us c.loop-s.s []) fault (omega arith) refl c.loop-s.invariant c.in_err-payoffs_in.ensures)

pub returns : goal.returns
returns c =
    let us = c.args.game.now.payoffs in
    let listed = c.players-players.ensures.is_game.payoffs_listed in
    folded_end with_payoffs (folded with_payoffs c.args.scale us) c.args.scale us c.loop-s.s (omega arith) c.loop-s.invariant
