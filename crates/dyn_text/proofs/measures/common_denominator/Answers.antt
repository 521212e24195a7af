use Rattle.std.proofs.Common.{Err, ap, ◌∙◌, arith}
use Rattle.std.proofs.lemmas.Result.{err_from_is_err_and}
use Rattle.game_model.proofs.Multiples.{least_none}
use Rattle.dyn_text.proofs.Loops.{WideIn, err_holds, unit_more, wide_in}
use Rattle.dyn_text.proofs.measures.common_denominator.Goals as goal

pub loop-game-init : goal.loop-game-init
loop-game-init c = (least_none, omega arith)

pub returns-in_err-unit-clause-fault : goal.returns-in_err-unit-clause-fault
returns-in_err-unit-clause-fault c =
    let p = err_from_is_err_and c.from_residual.result c.from_residual.ensures.1 in
    let e = c.in_err-unit.field-0.0 in
    err_holds (WideIn c.args.games.now) c.from_residual.result e (p.1 ∙ ap Err p.2)
    (wide_in c.args.games.now c.loop-game.game-index c.loop-game.unit c.game-item.result e c.loop-game-test.true c.game-item.is c.loop-game.invariant.0 c.in_err-unit.ensures.fault)

pub loop-game-preserved : goal.loop-game-preserved
loop-game-preserved c = (
  unit_more c.args.games.now c.loop-game.game-index c.loop-game.unit c.in_ok-unit.unit c.game-item.result c.loop-game-test.true c.game-item.is c.loop-game.invariant.0 c.in_ok-unit.ensures.multiple.0,
  c.in_ok-unit.ensures.multiple.1,
)
