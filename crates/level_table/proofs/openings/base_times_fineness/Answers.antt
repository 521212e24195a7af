-- the base times a power of two is small
use Rattle.std.proofs.Common.{◌≡◌, ◌*◌, ◌^◌, ◌≤◌, ap, ◌∙◌, arith, rules, lit<, pos, ◌*ℤ◌}
use Rattle.std.specs.Int.{w128}
use Rattle.std.specs.Int.RustNames.{unsigned_abs}
use Rattle.std.proofs.lemmas.Nat.{one_shl}
use Rattle.std.proofs.Math.Pow.{pow_mono}
use Rattle.exact_algebra.proofs.Fits.{product_fits, product_is}
use Rattle.level_table.proofs.Sizes.{base_small, base_times_fineness_small}
use Rattle.level_table.proofs.openings.base_times_fineness.Goals as goal

pub overflow_mul-result : goal.overflow_mul-result
overflow_mul-result c =
    let power : c.from.result ≡ pos (2 ^ c.args.grid) = c.from.ensures ∙ ap pos (one_shl c.args.grid 64 (omega arith)) in
    let low : unsigned_abs c.base.result ≤ 2 ^ 30 = rw c.base.ensures (base_small c.args.game.now c.players-players.ensures.is_game) in
    let few : unsigned_abs c.from.result ≤ 2 ^ 30 = rw power (pow_mono c.requires) in
    product_fits w128 c.base.result c.from.result (2 ^ 30) (2 ^ 30) (search rules) (search rules) low few (lit< tt)

pub returns-clause-value : goal.returns-clause-value
returns-clause-value c =
    let power : c.from.result ≡ pos (2 ^ c.args.grid) = c.from.ensures ∙ ap pos (one_shl c.args.grid 64 (omega arith)) in
    let low : unsigned_abs c.base.result ≤ 2 ^ 30 = rw c.base.ensures (base_small c.args.game.now c.players-players.ensures.is_game) in
    let few : unsigned_abs c.from.result ≤ 2 ^ 30 = rw power (pow_mono c.requires) in
    let exact : c.base.result *ℤ c.from.result ≡ pos (c.args.game.now.base * 2 ^ c.args.grid) = rw (c.base.ensures, power) in
    product_is w128 c.base.result c.from.result (2 ^ 30) (2 ^ 30) (search rules) (search rules) low few (lit< tt) ∙ exact

pub returns-clause-small : goal.returns-clause-small
returns-clause-small c = base_times_fineness_small c.args.game.now c.args.grid c.players-players.ensures.is_game c.requires
