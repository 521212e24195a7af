use Rattle.std.proofs.Common.{◌<◌, ◌≤◌, ◌^◌, Err, length, ap, ◌∙◌, arith}
use Rattle.std.specs.Int.{w64}
use Rattle.std.specs.Int.RustNames.{FitsSigned, unsigned_abs}
use Rattle.std.proofs.lemmas.Int.{fits_signed_from_abs, to_z-of_z}
use Rattle.std.proofs.lemmas.Result.{err_from_is_err_and}
use Rattle.dyn_text.proofs.Loops.{PayoffFault, err_holds, payoff_fault_at, values_more}
use Rattle.dyn_text.proofs.Payoffs.{small_more}
use Rattle.dyn_text.proofs.measures.game_payoffs.Goals as goal

pub returns-in_err-payoff-clause-fault : goal.returns-in_err-payoff-clause-fault
returns-in_err-payoff-clause-fault c =
    let ps = c.args.game.now.payoffs in
    let below : c.loop-k.k < length ps = omega arith in
    let p = err_from_is_err_and c.from_residual.result c.from_residual.ensures.1 in
    let e = c.in_err-payoff.field-0.0 in
    err_holds (PayoffFault c.args.unit ps) c.from_residual.result e (p.1 ∙ ap Err p.2)
    (payoff_fault_at c.args.unit ps c.loop-k.k c.get.result.now e below c.get.ensures c.loop-k.invariant.1 c.in_err-payoff.ensures.fault)

pub loop-k-preserved : goal.loop-k-preserved
loop-k-preserved c =
    let ps = c.args.game.now.payoffs in
    let below : c.loop-k.k < length ps = omega arith in
    let value = c.in_ok-payoff.ensures.value in
    let payoff = c.in_ok-payoff.payoff in
    let small : unsigned_abs payoff ≤ 2 ^ 26 = rw value.0 value.1 in
    let fits : FitsSigned w64 payoff = fits_signed_from_abs w64 payoff (omega arith) in
    let kept = simp to_z-of_z at c.in_ok-add.ensures in (
      values_more c.args.unit ps c.loop-k.k c.get.result.now c.loop-k.payoffs.items c.add.new.list.items payoff below c.get.ensures c.loop-k.invariant.0 kept value.0,
      small_more c.args.unit ps c.loop-k.k c.get.result.now below c.get.ensures c.loop-k.invariant.1 value.1,
    )
