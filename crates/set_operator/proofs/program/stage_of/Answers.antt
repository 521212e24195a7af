use Rattle.std.proofs.Common.{◌≤◌, ◌^◌, ◌+◌, ℕ, arith, ◌∙◌, ap, lit<}
use Rattle.std.specs.Prelude.{◌*ℤ◌, ◌+ℤ◌}
use Rattle.std.specs.Int.{w128}
use Rattle.std.specs.Int.RustNames.{FitsSigned, unsigned_abs}
use Rattle.std.proofs.lemmas.Int.{to_z-of_z}
use Rattle.exact_algebra.proofs.Order.{abs_sum}
use Rattle.exact_algebra.proofs.Fits.{fits128}
use Rattle.bound_laws.proofs.Order.{nought_times}
use Rattle.game_model.specs.SelfGeneration.{part}
use Rattle.level_table.specs.Problem.{IsProblem, direction}
use Rattle.set_operator.specs.Boxes.{stage_at}
use Rattle.set_operator.proofs.Fits.{sum128, three_sum}
use Rattle.set_operator.proofs.Programs.{direction_unused}
use Rattle.set_operator.proofs.program.stage_of.Goals as goal

pub overflow_add-result-2 : goal.overflow_add-result-2
overflow_add-result-2 c =
    let f1 : FitsSigned w128 c.stage_part-first.result = record { sfits = c.stage_part-first.type_inv } in
    let f2 : FitsSigned w128 c.stage_part-second.result = record { sfits = c.stage_part-second.type_inv } in
    let f3 : FitsSigned w128 c.stage_part.result = record { sfits = c.stage_part.type_inv } in
    let two : unsigned_abs (c.stage_part-first.result +ℤ c.stage_part-second.result) ≤ 2 ^ 62 + 2 ^ 62 = abs_sum c.stage_part-first.result c.stage_part-second.result (2 ^ 62) (2 ^ 62) c.stage_part-first.ensures.bound c.stage_part-second.ensures.bound in
    let f4 : FitsSigned w128 (c.stage_part-first.result +ℤ c.stage_part-second.result) = fits128 (c.stage_part-first.result +ℤ c.stage_part-second.result) (2 ^ 62 + 2 ^ 62) two (lit< tt) in
    simp to_z-of_z (sum128 (c.stage_part-first.result +ℤ c.stage_part-second.result) c.stage_part.result (2 ^ 62 + 2 ^ 62) (2 ^ 62) two c.stage_part.ensures.bound (lit< tt))

pub returns-clause-value : goal.returns-clause-value
returns-clause-value c =
    let f1 : FitsSigned w128 c.stage_part-first.result = record { sfits = c.stage_part-first.type_inv } in
    let f2 : FitsSigned w128 c.stage_part-second.result = record { sfits = c.stage_part-second.type_inv } in
    let f3 : FitsSigned w128 c.stage_part.result = record { sfits = c.stage_part.type_inv } in
    let two : unsigned_abs (c.stage_part-first.result +ℤ c.stage_part-second.result) ≤ 2 ^ 62 + 2 ^ 62 = abs_sum c.stage_part-first.result c.stage_part-second.result (2 ^ 62) (2 ^ 62) c.stage_part-first.ensures.bound c.stage_part-second.ensures.bound in
    let f4 : FitsSigned w128 (c.stage_part-first.result +ℤ c.stage_part-second.result) = fits128 (c.stage_part-first.result +ℤ c.stage_part-second.result) (2 ^ 62 + 2 ^ 62) two (lit< tt) in
    let f5 : FitsSigned w128 (c.stage_part-first.result +ℤ c.stage_part-second.result +ℤ c.stage_part.result) = sum128 (c.stage_part-first.result +ℤ c.stage_part-second.result) c.stage_part.result (2 ^ 62 + 2 ^ 62) (2 ^ 62) two c.stage_part.ensures.bound (lit< tt) in
    let ok : IsProblem c.args.p.now = c.rules.ensures in
    let f = λ (i : ℕ). part (direction c.args.p.now c.args.dir) i *ℤ stage_at c.args.found.now i in
    simp to_z-of_z (
    ap (λ z. z +ℤ c.stage_part-second.result +ℤ c.stage_part.result) c.stage_part-first.ensures.value
    ∙ ap (λ z. f 0 +ℤ z +ℤ c.stage_part.result) c.stage_part-second.ensures.value
    ∙ ap (λ z. f 0 +ℤ f 1 +ℤ z) c.stage_part.ensures.value
    ∙ three_sum f c.args.p.now.game.players ok.directions.at_least_two_players ok.directions.at_most_three_players
    (λ i past. ap (λ z. z *ℤ stage_at c.args.found.now i) (direction_unused c.args.p.now c.args.dir i ok c.requires.dir past) ∙ nought_times (stage_at c.args.found.now i)))

pub returns-clause-bound : goal.returns-clause-bound
returns-clause-bound c =
    let f1 : FitsSigned w128 c.stage_part-first.result = record { sfits = c.stage_part-first.type_inv } in
    let f2 : FitsSigned w128 c.stage_part-second.result = record { sfits = c.stage_part-second.type_inv } in
    let f3 : FitsSigned w128 c.stage_part.result = record { sfits = c.stage_part.type_inv } in
    let two : unsigned_abs (c.stage_part-first.result +ℤ c.stage_part-second.result) ≤ 2 ^ 62 + 2 ^ 62 = abs_sum c.stage_part-first.result c.stage_part-second.result (2 ^ 62) (2 ^ 62) c.stage_part-first.ensures.bound c.stage_part-second.ensures.bound in
    let f4 : FitsSigned w128 (c.stage_part-first.result +ℤ c.stage_part-second.result) = fits128 (c.stage_part-first.result +ℤ c.stage_part-second.result) (2 ^ 62 + 2 ^ 62) two (lit< tt) in
    let bound : unsigned_abs (c.stage_part-first.result +ℤ c.stage_part-second.result +ℤ c.stage_part.result) ≤ (2 ^ 62 + 2 ^ 62) + 2 ^ 62 = abs_sum (c.stage_part-first.result +ℤ c.stage_part-second.result) c.stage_part.result (2 ^ 62 + 2 ^ 62) (2 ^ 62) two c.stage_part.ensures.bound in
    let f5 : FitsSigned w128 (c.stage_part-first.result +ℤ c.stage_part-second.result +ℤ c.stage_part.result) = sum128 (c.stage_part-first.result +ℤ c.stage_part-second.result) c.stage_part.result (2 ^ 62 + 2 ^ 62) (2 ^ 62) two c.stage_part.ensures.bound (lit< tt) in
    simp to_z-of_z (omega arith)
