use Rattle.std.proofs.Common.{◌≡◌, ◌+◌, ◌*◌, ◌^◌, ◌≤◌, ◌∙◌, ap, arith, rules, get_or, ℤ, pos, ◌+ℤ◌, to_z, of_z, FitsSigned}
use Rattle.std.specs.Int.{w32, w64}
use Rattle.std.specs.Int.RustNames.{unsigned_abs}
use Rattle.std.proofs.lemmas.Int.{to_z-of_z, fits_signed_from_abs}
use Rattle.exact_algebra.proofs.Order.{abs_sum}
use Rattle.level_table.specs.Problem.{largest_payoff}
use Rattle.level_table.proofs.OpeningLemmas.{sum_more}
use Rattle.level_table.proofs.openings.largest_sum.Goals as goal

pub loop-i-preserved : goal.loop-i-preserved
loop-i-preserved c =
    let part : ℤ = get_or c.args.direction c.loop-i.i (pos 0) in
    let part_fits : FitsSigned w32 part = fits_signed_from_abs w32 part (omega (arith, c.requires.small c.loop-i.i)) in
    let from_fits : FitsSigned w64 c.from.result = search rules in
    let wide : to_z w64 (of_z w64 c.from.result) ≡ part = to_z-of_z w64 c.from.result from_fits ∙ c.from.ensures ∙ to_z-of_z w32 part part_fits in
    let exact : c.largest_payoff-sum.result ≡ largest_payoff c.args.game.now part c.loop-i.i =
    c.largest_payoff-sum.ensures.largest ∙ ap (λ (z : ℤ). largest_payoff c.args.game.now z c.loop-i.i) wide in
    let one_fits : FitsSigned w64 c.largest_payoff-sum.result = search rules in
    let one : to_z w64 (of_z w64 c.largest_payoff-sum.result) ≡ c.largest_payoff-sum.result = to_z-of_z w64 c.largest_payoff-sum.result one_fits in
    let one_small : unsigned_abs (to_z w64 (of_z w64 c.largest_payoff-sum.result)) ≤ 2 ^ 28 = rw one c.largest_payoff-sum.ensures.small in
    let total : ℤ = to_z w64 c.loop-i.sum-bits +ℤ to_z w64 (of_z w64 c.largest_payoff-sum.result) in
    let small : unsigned_abs total ≤ c.loop-i.i * 2 ^ 28 + 2 ^ 28 = abs_sum (to_z w64 c.loop-i.sum-bits) (to_z w64 (of_z w64 c.largest_payoff-sum.result)) (c.loop-i.i * 2 ^ 28) (2 ^ 28) c.loop-i.invariant.small one_small in
    let fits : FitsSigned w64 total = fits_signed_from_abs w64 total (omega (arith, c.requires.game.three_players, c.players-i-end.ensures.count, c.loop-i-test.true)) in
    let same : to_z w64 (of_z w64 total) ≡ total = to_z-of_z w64 total fits in
    record {
      sum = same ∙ sum_more (λ i. largest_payoff c.args.game.now (get_or c.args.direction i (pos 0)) i) c.loop-i.i (to_z w64 c.loop-i.sum-bits) (to_z w64 (of_z w64 c.largest_payoff-sum.result)) c.loop-i.invariant.sum (one ∙ exact);
      small = rw same (omega arith);
    }
