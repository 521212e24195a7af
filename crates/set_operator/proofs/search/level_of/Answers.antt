-- the ceiling fits
use Rattle.std.proofs.Common.{◌≡◌, ◌^◌, ◌<◌, ◌≤◌, subst, sym, arith, rules, to_z, of_z, FitsSigned}
use Rattle.std.specs.Int.{w64, w128}
use Rattle.std.specs.Int.RustNames.{unsigned_abs}
use Rattle.std.proofs.lemmas.Int.{to_z-of_z}
use Rattle.level_table.specs.Levels.{levels_in}
use Rattle.set_operator.specs.Search.{IsCeilingOf}
use Rattle.set_operator.proofs.SearchLemmas.{ceiling_by_code}
use Rattle.set_operator.proofs.ValueSizes.{best_small, level_fits, level_small}
use Rattle.set_operator.proofs.search.level_of.Goals as goal

ceiling : (c : goal.After-ceil_div) → IsCeilingOf c.args.p.now c.args.best.now c.ceil_div.result
ceiling c = ceiling_by_code c.args.p.now c.args.best.now c.value_unit.result c.ceil_div.result c.requires.best.small c.value_unit.ensures.unit c.value_unit.ensures.small c.ceil_div.ensures

small : (c : goal.After-ceil_div) → unsigned_abs c.ceil_div.result ≤ 2 ^ 62
small c =
    let p = c.args.p.now in
    let best = c.args.best.now in
    let game = c.rules.ensures.game in
    let some : 0 < p.game.q = omega (arith, game.discounts_below 0 (omega (arith, game.two_players))) in
    level_small p best.point.den best.value c.ceil_div.result some c.requires.best.small.positive (best_small p (levels_in c.args.levels.now) c.args.row.state c.args.row.dir best c.rules.ensures c.requires.opening c.requires.table.small c.requires.state c.requires.dir c.requires.known c.requires.best) (ceiling c)

same : (c : goal.After-ceil_div) → to_z w64 (of_z w64 (to_z w128 (of_z w128 c.ceil_div.result))) ≡ c.ceil_div.result
same c =
    let wide : FitsSigned w128 c.ceil_div.result = search rules in
    rw (to_z-of_z w128 c.ceil_div.result wide) (to_z-of_z w64 c.ceil_div.result (level_fits c.ceil_div.result (small c)))

pub overflow_cast-result : goal.overflow_cast-result
overflow_cast-result c =
    let wide : FitsSigned w128 c.ceil_div.result = search rules in
    rw (to_z-of_z w128 c.ceil_div.result wide) (level_fits c.ceil_div.result (small c))

pub returns-clause-ceiling : goal.returns-clause-ceiling
returns-clause-ceiling c = subst (λ z. IsCeilingOf c.args.p.now c.args.best.now z) (sym (same c)) (ceiling c)

pub returns-clause-small : goal.returns-clause-small
returns-clause-small c = subst (λ z. unsigned_abs z ≤ 2 ^ 62) (sym (same c)) (small c)
