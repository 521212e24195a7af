use Rattle.std.proofs.Common.{◌≡◌, ◌^◌, ◌≤◌, ◌∙◌, ap, rules, lit<, get_or, List, [], ℤ, ◌*ℤ◌, FitsSigned}
use Rattle.std.specs.Int.{w64, w128}
use Rattle.std.specs.Int.RustNames.{unsigned_abs}
use Rattle.std.proofs.lemmas.Int.{to_z-of_z}
use Rattle.std.proofs.lemmas.List.{get_or_default}
use Rattle.direction_set.specs.DirectionTable.{zero_vector}
use Rattle.game_model.specs.SelfGeneration.{part, sum_below}
use Rattle.exact_algebra.proofs.Order.{abs_product}
use Rattle.exact_algebra.proofs.Fits.{product_is}
use Rattle.level_table.specs.Problem.{largest_payoff, opening_level, problem_of}
use Rattle.level_table.proofs.openings.level_in.Goals as goal

pub returns-clause-level : goal.returns-clause-level
returns-clause-level c =
    let fits : FitsSigned w64 c.largest_sum.result = search rules in
    let wide : c.from.result ≡ c.largest_sum.result = c.from.ensures ∙ to_z-of_z w64 c.largest_sum.result fits in
    let low : unsigned_abs c.base_times_fineness-factor.result ≤ 2 ^ 60 = rw c.base_times_fineness-factor.ensures.value c.base_times_fineness-factor.ensures.small in
    let few : unsigned_abs c.from.result ≤ 2 ^ 30 = rw wide c.largest_sum.ensures.small in
    let vector : c.vector.result ≡ get_or c.args.dirs.now.vectors c.args.k [] =
    c.vector.ensures ∙ get_or_default c.args.dirs.now.vectors c.args.k zero_vector [] c.requires.known in
    let sum : c.from.result ≡ sum_below (λ i. largest_payoff c.args.game.now (part (get_or c.args.dirs.now.vectors c.args.k []) i) i) c.args.game.now.players =
    wide ∙ c.largest_sum.ensures.sum ∙ ap (λ (v : List ℤ). sum_below (λ i. largest_payoff c.args.game.now (part v i) i) c.args.game.now.players) vector in
    let exact : c.base_times_fineness-factor.result *ℤ c.from.result ≡ opening_level (problem_of c.args.game.now c.args.dirs.now c.args.grid) c.args.k = rw (c.base_times_fineness-factor.ensures.value, sum) in
    product_is w128 c.base_times_fineness-factor.result c.from.result (2 ^ 60) (2 ^ 30) (search rules) (search rules) low few (lit< tt) ∙ exact

pub returns-clause-small : goal.returns-clause-small
returns-clause-small c =
    let fits : FitsSigned w64 c.largest_sum.result = search rules in
    let wide : c.from.result ≡ c.largest_sum.result = c.from.ensures ∙ to_z-of_z w64 c.largest_sum.result fits in
    let low : unsigned_abs c.base_times_fineness-factor.result ≤ 2 ^ 60 = rw c.base_times_fineness-factor.ensures.value c.base_times_fineness-factor.ensures.small in
    let few : unsigned_abs c.from.result ≤ 2 ^ 30 = rw wide c.largest_sum.ensures.small in
    rw (product_is w128 c.base_times_fineness-factor.result c.from.result (2 ^ 60) (2 ^ 30) (search rules) (search rules) low few (lit< tt))
    (abs_product c.base_times_fineness-factor.result c.from.result (2 ^ 60) (2 ^ 30) low few)
