use Rattle.std.proofs.Common.{◌≤◌, ◌^◌, ◌+◌, ◌-◌, lit<}
use Rattle.std.specs.Prelude.{pos, ◌*ℤ◌, ◌+ℤ◌}
use Rattle.std.specs.Int.{w128}
use Rattle.std.specs.Int.RustNames.{FitsSigned, unsigned_abs}
use Rattle.std.proofs.lemmas.Int.{to_z-of_z}
use Rattle.exact_algebra.proofs.Order.{abs_sum}
use Rattle.exact_algebra.proofs.Fits.{fits128}
use Rattle.game_model.specs.SelfGeneration.{part}
use Rattle.level_table.specs.Problem.{IsProblem, direction, discount_at}
use Rattle.set_operator.proofs.Fits.{sum128}
use Rattle.set_operator.proofs.Mosts.{three_most}
use Rattle.set_operator.proofs.most.spread_of.Goals as goal

pub returns-clause-most : goal.returns-clause-most
returns-clause-most c =
    let ok : IsProblem c.args.p.now = c.rules.ensures in
    let f1 : FitsSigned w128 c.spread_part-first.result = record { sfits = c.spread_part-first.type_inv } in
    let f2 : FitsSigned w128 c.spread_part-second.result = record { sfits = c.spread_part-second.type_inv } in
    let f3 : FitsSigned w128 c.spread_part.result = record { sfits = c.spread_part.type_inv } in
    let two : unsigned_abs (c.spread_part-first.result +ℤ c.spread_part-second.result) ≤ 2 ^ 74 + 2 ^ 74 = abs_sum c.spread_part-first.result c.spread_part-second.result (2 ^ 74) (2 ^ 74) c.spread_part-first.ensures.bound c.spread_part-second.ensures.bound in
    let f4 : FitsSigned w128 (c.spread_part-first.result +ℤ c.spread_part-second.result) = fits128 (c.spread_part-first.result +ℤ c.spread_part-second.result) (2 ^ 74 + 2 ^ 74) two (lit< tt) in
    let f5 : FitsSigned w128 (c.spread_part-first.result +ℤ c.spread_part-second.result +ℤ c.spread_part.result) = sum128 (c.spread_part-first.result +ℤ c.spread_part-second.result) c.spread_part.result (2 ^ 74 + 2 ^ 74) (2 ^ 74) two c.spread_part.ensures.bound (lit< tt) in
    λ y den positive within. simp to_z-of_z (three_most c.args.p.now.game.players
    (λ i. pos (discount_at c.args.p.now i - c.args.least) *ℤ (part (direction c.args.p.now c.args.dir) i *ℤ part y i))
    c.spread_part-first.result c.spread_part-second.result c.spread_part.result den ok.directions.at_least_two_players ok.directions.at_most_three_players
    (λ w. c.spread_part-first.ensures.most w (part y 0) den positive (within 0 w))
    (λ w. c.spread_part-second.ensures.most w (part y 1) den positive (within 1 w))
    (λ w. c.spread_part.ensures.most w (part y 2) den positive (within 2 w))
    (λ w. c.spread_part.ensures.unused w))
