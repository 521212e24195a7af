use Rattle.std.proofs.Common.{◌≤◌, ◌∙◌, arith}
use Rattle.make_run.proofs.Openings.{budget_by_heights, product_within}
use Rattle.make_run.proofs.budget.budget.Goals as goal

pub overflow_mul-result : goal.overflow_mul-result
overflow_mul-result c =
    let n : c.from-states.result ≤ 64 = omega (arith, c.from-states.ensures, c.states.ensures, c.rules.ensures.game.few_states) in
    let w = product_within c.from-states.result 0 c.heights.result n (omega arith) c.heights.ensures.small in
    omega (arith, w.0)

pub overflow_add-result : goal.overflow_add-result
overflow_add-result c =
    let n : c.from-states.result ≤ 64 = omega (arith, c.from-states.ensures, c.states.ensures, c.rules.ensures.game.few_states) in
    let w = product_within c.from-states.result 0 c.heights.result n (omega arith) c.heights.ensures.small in
    omega (arith, w.0)

pub overflow_add-result-2 : goal.overflow_add-result-2
overflow_add-result-2 c =
    let n : c.from-states.result ≤ 64 = omega (arith, c.from-states.ensures, c.states.ensures, c.rules.ensures.game.few_states) in
    let w = product_within c.from-states.result 0 c.heights.result n (omega arith) c.heights.ensures.small in
    omega (arith, w.0)

pub overflow_mul-result-2 : goal.overflow_mul-result-2
overflow_mul-result-2 c =
    let n : c.from-states.result ≤ 64 = omega (arith, c.from-states.ensures, c.states.ensures, c.rules.ensures.game.few_states) in
    let m : c.from.result ≤ 32 = omega (arith, c.from.ensures, c.directions.ensures, c.rules.ensures.directions.count_small) in
    let w = product_within c.from-states.result c.from.result c.heights.result n m c.heights.ensures.small in
    omega (arith, w.1)

pub returns : goal.returns
returns c =
    budget_by_heights c.args.p.now c.from-states.result c.from.result c.heights.result (c.from-states.ensures ∙ c.states.ensures) (c.from.ensures ∙ c.directions.ensures) c.heights.ensures.sum
