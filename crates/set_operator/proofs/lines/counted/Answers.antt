use Rattle.std.proofs.Common.{◌≡◌, ◌∙◌}
use Rattle.game_model.specs.Game.{payoff_at}
use Rattle.set_operator.proofs.LineLemmas.{counted_by, counted_code_small, counted_is, inner_fits, outer_fits, worth_by}
use Rattle.set_operator.proofs.lines.counted.Goals as goal

pub overflow_mul-result : goal.overflow_mul-result
overflow_mul-result c =
    let p = c.args.p.now in
    let u : c.payoff-payoff.result ≡ payoff_at p.game c.args.by.now.state c.args.profile c.args.by.now.player = cc in
    inner_fits c.args.by.now.weight c.args.by.now.unit c.payoff-payoff.result
    (counted_by p c.args.by.now.state c.args.profile c.args.by.now.player c.args.by.now.weight c.args.by.now.unit c.payoff-payoff.result c.game.ensures.is_problem c.requires.opening c.requires.state c.requires.profile c.requires.player c.requires.from.weight c.requires.from.unit u)

pub overflow_mul-result-2 : goal.overflow_mul-result-2
overflow_mul-result-2 c =
    let p = c.args.p.now in
    let u : c.payoff-payoff.result ≡ payoff_at p.game c.args.by.now.state c.args.profile c.args.by.now.player = cc in
    outer_fits c.args.by.now.weight c.args.by.now.unit c.payoff-payoff.result
    (counted_by p c.args.by.now.state c.args.profile c.args.by.now.player c.args.by.now.weight c.args.by.now.unit c.payoff-payoff.result c.game.ensures.is_problem c.requires.opening c.requires.state c.requires.profile c.requires.player c.requires.from.weight c.requires.from.unit u)

pub returns-clause-value : goal.returns-clause-value
returns-clause-value c =
    let p = c.args.p.now in
    let u : c.payoff-payoff.result ≡ payoff_at p.game c.args.by.now.state c.args.profile c.args.by.now.player = cc in
    counted_is c.args.by.now.weight c.args.by.now.unit c.payoff-payoff.result
    (counted_by p c.args.by.now.state c.args.profile c.args.by.now.player c.args.by.now.weight c.args.by.now.unit c.payoff-payoff.result c.game.ensures.is_problem c.requires.opening c.requires.state c.requires.profile c.requires.player c.requires.from.weight c.requires.from.unit u)
    ∙ worth_by p c.args.by.now.state c.args.profile c.args.by.now.player c.args.by.now.weight c.args.by.now.unit c.payoff-payoff.result c.requires.from.weight c.requires.from.unit u

pub returns-clause-small : goal.returns-clause-small
returns-clause-small c =
    let p = c.args.p.now in
    let u : c.payoff-payoff.result ≡ payoff_at p.game c.args.by.now.state c.args.profile c.args.by.now.player = cc in
    counted_code_small c.args.by.now.weight c.args.by.now.unit c.payoff-payoff.result
    (counted_by p c.args.by.now.state c.args.profile c.args.by.now.player c.args.by.now.weight c.args.by.now.unit c.payoff-payoff.result c.game.ensures.is_problem c.requires.opening c.requires.state c.requires.profile c.requires.player c.requires.from.weight c.requires.from.unit u)
