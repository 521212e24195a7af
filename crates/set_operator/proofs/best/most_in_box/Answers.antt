use Rattle.std.proofs.Common.{◌≡◌, ◌∙◌, ap, sym, refl}
use Rattle.std.specs.Prelude.{pos, ◌*ℤ◌, ◌+ℤ◌}
use Rattle.std.specs.Int.{w128}
use Rattle.std.specs.Int.RustNames.{FitsSigned}
use Rattle.std.proofs.lemmas.Int.{to_z-of_z}
use Rattle.bound_laws.proofs.Order.{at_most_along}
use Rattle.level_table.specs.Levels.{levels_in}
use Rattle.set_operator.proofs.Mosts.{at_most_box}
use Rattle.set_operator.proofs.best.most_in_box.Goals as goal

pub returns-clause-most : goal.returns-clause-most
returns-clause-most c =
    let f1 : FitsSigned w128 c.most_from.result = record { sfits = c.most_from.type_inv } in
    let f2 : FitsSigned w128 c.spread_of.result = record { sfits = c.spread_of.type_inv } in
    let f3 : FitsSigned w128 c.stage_of-stage.result = record { sfits = c.stage_of-stage.type_inv } in
    let is : c.most_from.result ≡ pos 0 *ℤ pos 0 +ℤ c.stage_of-stage.result +ℤ c.spread_of.result = simp to_z-of_z at c.most_from.ensures.value in
    let e = is ∙ ap (λ s. pos 0 *ℤ pos 0 +ℤ s +ℤ c.spread_of.result) c.stage_of-stage.ensures.value in
    λ z adm. simp to_z-of_z (at_most_along refl (ap (λ r. r *ℤ z.denominator) (sym e))
    (at_most_box c.args.p.now (levels_in c.args.levels.now) c.args.found.now c.args.dir c.spread_of.result z c.rules.ensures c.requires.sides c.requires.dir c.spread_of.ensures.most adm))
