use Rattle.std.proofs.Common.{◌≡◌, ◌+◌, ◌<◌, [], ◌∷◌, ◌++◌, length, arith, ap, sym, ◌∙◌, rules}
use Rattle.std.specs.Int.{w128}
use Rattle.std.specs.Int.RustNames.{FitsSigned}
use Rattle.std.proofs.lemmas.Int.{to_z-of_z}
use Rattle.lp_core.specs.Turned.{turned_item}
use Rattle.lp_core.proofs.Steps.{map_more}
use Rattle.lp_core.proofs.plane.items_back.Goals as goal

pub loop-i-preserved : goal.loop-i-preserved
loop-i-preserved c =
    let items = c.args.items.now in
    let gone = c.args.gone in
    let i = c.loop-i.i in
    let item = c.get.result.now in
    let l : i < length items = omega (arith, c.len-i-end.ensures.value, c.loop-i-test.true) in
    let f : FitsSigned w128 c.get.result.now.1 = search rules in
    let pushed = simp to_z-of_z at c.push.ensures in
    let pair : (c.number_of.result, item.1) ≡ turned_item gone item = ap (λ z. (z, item.1)) c.number_of.ensures in
    pushed ∙ ap (λ z. c.loop-i.back ++ z ∷ []) pair ∙ ap (λ z. z ++ turned_item gone item ∷ []) c.loop-i.invariant ∙ sym (map_more (turned_item gone) items i item l c.get.ensures)
