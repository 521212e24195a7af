use Rattle.std.proofs.Common.{◌≡◌, ◌^◌, refl, ◌∙◌, ap, lit<}
use Rattle.std.specs.Prelude.{◌+ℤ◌, ◌*ℤ◌}
use Rattle.std.specs.Int.{w128}
use Rattle.std.specs.Int.RustNames.{FitsSigned}
use Rattle.std.proofs.lemmas.Int.{to_z-of_z}
use Rattle.level_table.specs.Levels.{levels_in}
use Rattle.lp_core.specs.Answer.{IsBestPoint}
use Rattle.exact_algebra.proofs.Fits.{fits128}
use Rattle.set_operator.specs.Program.{stage_value}
use Rattle.set_operator.proofs.Points.{meets_rows, vector_of}
use Rattle.set_operator.proofs.Values.{best_from}
use Rattle.set_operator.proofs.best.best_of.Goals as goal

pub returns-in-Best-clause-some : goal.returns-in-Best-clause-some
returns-in-Best-clause-some c =
    let ok = c.fill_rows.ensures.problem in
    let f1 : FitsSigned w128 c.value_over.result = record { sfits = c.value_over.type_inv } in
    let f2 : FitsSigned w128 c.stage_of.result = record { sfits = c.stage_of.type_inv } in
    let lp : IsBestPoint c.fill_rows.new.rows c.objective_of.result c.in-Best.point c.in-Best.value c.in-Best.dual.items = c.in-Best.ensures.best in
    let f3 : FitsSigned w128 c.in-Best.point.den = fits128 c.in-Best.point.den (2 ^ 20) lp.small_den (lit< tt) in
    let f4 : FitsSigned w128 c.in-Best.value = fits128 c.in-Best.value (2 ^ 102) lp.small_value (lit< tt) in
    let is : c.value_over.result ≡ c.in-Best.point.den *ℤ c.stage_of.result +ℤ c.in-Best.value = simp to_z-of_z at c.value_over.ensures.value in
    let worth : c.value_over.result ≡ c.in-Best.point.den *ℤ stage_value c.args.p.now c.args.found.now c.args.dir +ℤ c.in-Best.value =
    is ∙ ap (λ z. c.in-Best.point.den *ℤ z +ℤ c.in-Best.value) c.stage_of.ensures.value in
    simp to_z-of_z (best_from c.args.p.now (levels_in c.args.levels.now) c.args.found.now c.args.dir c.fill_rows.new.rows c.objective_of.result c.in-Best.point c.in-Best.value c.in-Best.dual.items
    (record { value = c.value_over.result; profile = c.args.found.now.profile; point = c.in-Best.point })
    ok c.requires.sides c.fill_rows.ensures.rows c.objective_of.ensures lp refl refl worth c.value_over.ensures.bound)

pub returns-in-Infeasible-clause-none : goal.returns-in-Infeasible-clause-none
returns-in-Infeasible-clause-none c = λ z adm.
    c.in-Infeasible.ensures.infeasible.0 tt (vector_of z)
    (meets_rows c.args.p.now (levels_in c.args.levels.now) c.args.found.now c.fill_rows.new.rows z c.fill_rows.ensures.problem c.requires.sides c.fill_rows.ensures.rows adm)
