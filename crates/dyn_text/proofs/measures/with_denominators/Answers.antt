use Rattle.std.proofs.Common.{◌≡◌, ◌<◌, List, ◌++◌, Err, length, take, map, subst, ap, ◌∙◌, arith}
use Rattle.std.proofs.lemmas.List.{take_all}
use Rattle.std.proofs.lemmas.Result.{err_from_is_err_and}
use Rattle.pay_frac.specs.Ratio.{Ratio}
use Rattle.game_model.specs.Game.{IsLeastCommonMultiple}
use Rattle.dyn_text.proofs.Multiples.{den}
use Rattle.dyn_text.proofs.Loops.{WideAfter, err_holds, so_far_more, wide_after}
use Rattle.dyn_text.proofs.measures.with_denominators.Goals as goal

pub returns-in_err-multiple-clause-fault : goal.returns-in_err-multiple-clause-fault
returns-in_err-multiple-clause-fault c =
    let g = c.args.game.now in
    let below : c.loop-k.k < length g.payoffs = omega arith in
    let p = err_from_is_err_and c.from_residual.result c.from_residual.ensures.1 in
    let e = c.in_err-multiple.field-0.0 in
    err_holds (WideAfter c.args.unit g) c.from_residual.result e (p.1 ∙ ap Err p.2)
    (wide_after c.args.unit g c.loop-k.k c.loop-k.multiple c.get.result.now e c.requires.read below c.get.ensures c.loop-k.invariant c.in_err-multiple.ensures.fault)

pub loop-k-preserved : goal.loop-k-preserved
loop-k-preserved c =
    let g = c.args.game.now in
    let below : c.loop-k.k < length g.payoffs = omega arith in
    so_far_more c.args.unit g c.loop-k.k c.loop-k.multiple c.in_ok-multiple.multiple c.get.result.now c.requires.read below c.get.ensures c.loop-k.invariant c.in_ok-multiple.ensures.multiple

pub returns-clause-multiple : goal.returns-clause-multiple
returns-clause-multiple c =
    let ps : List Ratio = c.args.game.now.payoffs in
    let whole : take c.loop-k.k ps ≡ ps = take_all c.loop-k.k ps (omega arith) in (
      λ before b. subst (λ (l : List Ratio). IsLeastCommonMultiple (before ++ map den l) c.loop-k.multiple) whole (c.loop-k.invariant.0 before b),
      c.loop-k.invariant.2,
    )
