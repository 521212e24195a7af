use Rattle.std.proofs.Common.{Err, ap, ◌∙◌}
use Rattle.std.proofs.lemmas.Result.{err_from_is_err_and}
use Rattle.dyn_text.specs.Assembled.{payoffs_in}
use Rattle.dyn_text.proofs.Loops.{PayoffFault, all_more, err_holds, lists_more, payoff_fault_in}
use Rattle.dyn_text.proofs.measures.all_payoffs.Goals as goal

pub returns-in_err-list-clause-fault : goal.returns-in_err-list-clause-fault
returns-in_err-list-clause-fault c =
    let p = err_from_is_err_and c.from_residual.result c.from_residual.ensures.1 in
    let e = c.in_err-list.field-0.0 in
    err_holds (PayoffFault c.args.unit (payoffs_in c.args.games.now)) c.from_residual.result e (p.1 ∙ ap Err p.2)
    (payoff_fault_in c.args.unit c.args.games.now c.loop-game.game-index c.game-item.result e c.loop-game-test.true c.game-item.is c.loop-game.invariant.1 c.in_err-list.ensures.fault)

pub loop-game-preserved : goal.loop-game-preserved
loop-game-preserved c = (
  lists_more c.args.unit c.args.games.now c.loop-game.game-index c.game-item.result c.loop-game.payoffs.items c.add.new.list.items c.in_ok-list.list c.loop-game-test.true c.game-item.is c.loop-game.invariant.0 c.in_ok-add.ensures c.in_ok-list.ensures.values.0,
  all_more c.args.unit c.args.games.now c.loop-game.game-index c.game-item.result c.loop-game-test.true c.game-item.is c.loop-game.invariant.1 c.in_ok-list.ensures.values.1,
)
