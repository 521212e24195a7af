use Rattle.std.proofs.Common.{◌≡◌, ◌∙◌, ap, sym, refl}
use Rattle.std.specs.Prelude.{pos, ◌*ℤ◌, ◌+ℤ◌}
use Rattle.std.specs.Int.{w64, w128}
use Rattle.std.specs.Int.RustNames.{FitsSigned}
use Rattle.std.proofs.lemmas.Int.{to_z-of_z}
use Rattle.bound_laws.proofs.Order.{at_most_along}
use Rattle.level_table.specs.Levels.{levels_in}
use Rattle.set_operator.proofs.Mosts.{at_most_all}
use Rattle.set_operator.proofs.best.most_value.Goals as goal

pub returns-clause-most : goal.returns-clause-most
returns-clause-most c =
    let f1 : FitsSigned w128 c.most_from.result = record { sfits = c.most_from.type_inv } in
    let f2 : FitsSigned w128 c.spread_by-spread.result = record { sfits = c.spread_by-spread.type_inv } in
    let f3 : FitsSigned w128 c.stage_of-stage.result = record { sfits = c.stage_of-stage.type_inv } in
    let f4 : FitsSigned w64 c.number_at-level.result = record { sfits = c.number_at-level.type_inv } in
    let is : c.most_from.result ≡ pos c.args.discounts.least *ℤ c.number_at-level.result +ℤ c.stage_of-stage.result +ℤ c.spread_by-spread.result = simp to_z-of_z at c.most_from.ensures.value in
    let e = is ∙ ap (λ s. pos c.args.discounts.least *ℤ c.number_at-level.result +ℤ s +ℤ c.spread_by-spread.result) c.stage_of-stage.ensures.value in
    λ z adm. simp to_z-of_z (at_most_along refl (ap (λ r. r *ℤ z.denominator) (sym e))
    (at_most_all c.args.p.now (levels_in c.args.levels.now) c.args.found.now c.args.dir c.args.discounts.least c.number_at-level.result c.spread_by-spread.result z c.rules.ensures c.requires.sides
    c.requires.discounts.least c.requires.dir c.number_at-level.ensures c.spread_by-spread.ensures.most adm))
