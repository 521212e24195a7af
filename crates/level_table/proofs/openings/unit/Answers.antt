use Rattle.std.proofs.Common.{◌≡◌, ◌^◌, ◌≤◌, ◌∙◌, arith, rules, lit<, ◌*ℤ◌, FitsSigned}
use Rattle.std.specs.Int.{w64, w128}
use Rattle.std.specs.Int.RustNames.{unsigned_abs}
use Rattle.std.proofs.lemmas.Int.{ints, to_z-of_z}
use Rattle.game_model.specs.Game.{unit_of}
use Rattle.exact_algebra.proofs.Order.{abs_within}
use Rattle.exact_algebra.proofs.Fits.{product_is}
use Rattle.level_table.proofs.openings.unit.Goals as goal

pub returns : goal.returns
returns c =
    let game = c.base_times_fineness-factor.ensures.is_game in
    let fits : FitsSigned w64 c.denominator.result = search rules in
    let wide : c.from.result ≡ c.args.game.now.denominator = c.from.ensures ∙ to_z-of_z w64 c.denominator.result fits ∙ c.denominator.ensures in
    let low : unsigned_abs c.from.result ≤ 2 ^ 40 = rw wide (abs_within c.args.game.now.denominator (2 ^ 40) (omega (arith, ints, game.denominator_positive)) game.denominator_small) in
    let few : unsigned_abs c.base_times_fineness-factor.result ≤ 2 ^ 60 = rw c.base_times_fineness-factor.ensures.value c.base_times_fineness-factor.ensures.small in
    let exact : c.from.result *ℤ c.base_times_fineness-factor.result ≡ unit_of c.args.game.now c.args.grid = rw (wide, c.base_times_fineness-factor.ensures.value) in
    product_is w128 c.from.result c.base_times_fineness-factor.result (2 ^ 40) (2 ^ 60) (search rules) (search rules) low few (lit< tt) ∙ exact
